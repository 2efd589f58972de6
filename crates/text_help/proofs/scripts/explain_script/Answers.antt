use Rattle.dash_script.specs.Accepting.{IsScriptText, IsScriptRefusal}
use Rattle.text_help.specs.Heads.{script_head}
use Rattle.text_help.proofs.Agreed.{begins, good_only, good_all, bad_only, bad_all, scripts}
use Rattle.text_help.proofs.scripts.explain_script.Goals as goal

pub returns-clause-good : goal.returns-clause-good
returns-clause-good c = good_only script_head c.args.bytes.now scripts IsScriptText c.said_of.result c.parse-parsed.result c.said_of.ensures c.parse-parsed.ensures.found

pub returns-clause-all_good : goal.returns-clause-all_good
returns-clause-all_good c = good_all script_head c.args.bytes.now scripts IsScriptText c.said_of.result c.parse-parsed.result c.said_of.ensures c.parse-parsed.ensures.only

pub returns-clause-bad : goal.returns-clause-bad
returns-clause-bad c =
    bad_only script_head c.args.bytes.now scripts IsScriptRefusal c.said_of.result c.parse-parsed.result c.said_of.ensures (λ line cause is. (c.parse-parsed.ensures.refused line cause is).0)

pub returns-clause-all_bad : goal.returns-clause-all_bad
returns-clause-all_bad c =
    bad_all script_head c.args.bytes.now scripts IsScriptRefusal c.said_of.result c.parse-parsed.result c.said_of.ensures c.parse-parsed.ensures.refused_so

pub returns-clause-begins : goal.returns-clause-begins
returns-clause-begins c = begins script_head c.args.bytes.now scripts c.said_of.result c.parse-parsed.result c.said_of.ensures
