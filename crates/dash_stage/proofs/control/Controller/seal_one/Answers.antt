use Rattle.dash_stage.proofs.Controller.Controlling.{in_queues, in_posters, own_poster, is_last}
use Rattle.dash_stage.proofs.Controller.ControlTurns.{in_lists, hands_alone, hands_none, hands_here}
use Rattle.dash_stage.proofs.control.Controller.seal_one.Goals as goal

pub index-requires : goal.index-requires
index-requires g c = in_queues c.requires.at

pub index_mut-requires : goal.index_mut-requires
index_mut-requires g c = in_posters c.requires.at

pub index_mut-requires-2 : goal.index_mut-requires-2
index_mut-requires-2 g c = in_lists c.requires.at

pub hand_out-requires : goal.hand_out-requires
hand_out-requires g c = let at = c.requires.at in
    record { poster = (own_poster at c.index_mut.ensures.value c.index.ensures).0; last = is_last at c.index_mut.ensures.value c.index.ensures }

pub returns : goal.returns
returns g c =
    let at = c.requires.at in
    let is_p = c.index_mut.ensures.value in
    let is_v = c.index_mut-2.ensures.value in
    let parts = c.hand_out.new.parts in
    record { alone = hands_alone at parts is_p is_v c.hand_out.ensures; none = hands_none at parts is_p is_v c.hand_out.ensures; here = hands_here at parts is_p is_v c.hand_out.ensures }
