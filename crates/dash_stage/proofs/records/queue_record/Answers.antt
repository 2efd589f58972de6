use Rattle.dash_stage.proofs.Ends.HallEnds.{next_in_order, ends_posters}
use Rattle.run_model.specs.Planned.{history_of}
use Rattle.dash_stage.proofs.Ends.Carried.{given_sealed}
use Rattle.dash_stage.proofs.records.queue_record.Goals as goal

pub retire-requires-clause-posters : goal.retire-requires-clause-posters
retire-requires-clause-posters c κs = next_in_order c.args.queue c.args.kits.now.items c.in_ok-posters.posters.items c.posters.new.kits.items c.requires.next c.in_ok-posters.ensures

pub retire-requires-clause-sealed : goal.retire-requires-clause-sealed
retire-requires-clause-sealed c κs = given_sealed c.args.kits.now.items c.in_ok-posters.posters.items c.posters.new.kits.items c.args.sealed.items c.in_ok-posters.ensures c.requires.sealed

pub returns-clause-kits : goal.returns-clause-kits
returns-clause-kits c = ends_posters c.args.queue c.args.kits.now.items c.in_ok-posters.posters.items c.posters.new.kits.items (history_of c.in_ok-retired.retired.kept) c.requires.next c.in_ok-posters.ensures c.in_ok-retired.ensures.end.calls

pub returns-clause-kept : goal.returns-clause-kept
returns-clause-kept c =
    let r = c.in_ok-retired.ensures in
    record { looper = r.kept.looper; setting = r.kept.setting; chain = r.end.chain; legal = r.end.sound.legal; numbered = r.end.sound.numbered }
