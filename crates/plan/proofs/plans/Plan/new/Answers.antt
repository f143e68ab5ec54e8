use Rattle.plan.proofs.Answered.{one_answer_each}
use Rattle.plan.proofs.Facts.{contents_tell, sound}
use Rattle.plan.proofs.Kept.{new_facts, new_contents}
use Rattle.plan.proofs.Rounds.{round_least}
use Rattle.plan.proofs.plans.Plan.new.Goals as goal

pub invariant_of-result : goal.invariant_of-result
invariant_of-result c = record { holds = new_facts }

pub returns-clause-holds : goal.returns-clause-holds
returns-clause-holds c = new_contents

pub returns-clause-tell : goal.returns-clause-tell
returns-clause-tell c = contents_tell

pub returns-clause-one : goal.returns-clause-one
returns-clause-one c = one_answer_each

pub returns-clause-sound : goal.returns-clause-sound
returns-clause-sound c = sound

pub returns-clause-least : goal.returns-clause-least
returns-clause-least c = round_least
