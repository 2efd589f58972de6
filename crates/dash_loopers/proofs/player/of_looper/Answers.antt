use Rattle.std.proofs.Common.{arith}
use Rattle.std.proofs.lemmas.Option.{slice_get_read}
use Rattle.dash_loopers.proofs.player.of_looper.Goals as goal

pub index-requires : goal.index-requires
index-requires g c =
    let list = c.args.list.now in
    let near = c.requires in
    omega (arith, near, list.ok.0)

pub returns : goal.returns
returns g c =
    let list = c.args.list.now in
    let near = c.requires in
    slice_get_read list.items list.len c.args.looper c.index.result.now (omega (arith, list.ok.0)) (omega (arith, near, list.ok.0)) c.index.ensures
