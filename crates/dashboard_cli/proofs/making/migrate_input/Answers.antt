-- A script that was read has a text, and so it has one in edition 2.
use Rattle.dashboard_cli.proofs.making.migrate_input.Goals as goal

pub print-requires : goal.print-requires
print-requires g c = c.in_ok-brought_up.ensures.text c.in_ok-script.ensures.within
