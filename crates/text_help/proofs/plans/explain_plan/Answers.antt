use Rattle.value_animator.specs.Reading.{IsPlanText, IsPlanRefusal}
use Rattle.text_help.specs.Heads.{plan_head}
use Rattle.text_help.proofs.Agreed.{begins, good_only, good_all, bad_only, bad_all, plans}
use Rattle.text_help.proofs.plans.explain_plan.Goals as goal

pub returns-clause-good : goal.returns-clause-good
returns-clause-good c = good_only plan_head c.args.bytes.now plans IsPlanText c.said_of.result c.parse_values-parsed.result c.said_of.ensures c.parse_values-parsed.ensures.found

pub returns-clause-all_good : goal.returns-clause-all_good
returns-clause-all_good c =
    good_all plan_head c.args.bytes.now plans IsPlanText c.said_of.result c.parse_values-parsed.result c.said_of.ensures c.parse_values-parsed.ensures.only

pub returns-clause-bad : goal.returns-clause-bad
returns-clause-bad c =
    bad_only plan_head c.args.bytes.now plans IsPlanRefusal c.said_of.result c.parse_values-parsed.result c.said_of.ensures
    (λ line cause is. (c.parse_values-parsed.ensures.refused line cause is).0)

pub returns-clause-all_bad : goal.returns-clause-all_bad
returns-clause-all_bad c =
    bad_all plan_head c.args.bytes.now plans IsPlanRefusal c.said_of.result c.parse_values-parsed.result c.said_of.ensures c.parse_values-parsed.ensures.refused_so

pub returns-clause-begins : goal.returns-clause-begins
returns-clause-begins c = begins plan_head c.args.bytes.now plans c.said_of.result c.parse_values-parsed.result c.said_of.ensures
