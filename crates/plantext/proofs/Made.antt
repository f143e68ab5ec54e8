-- The plans that hold what accepted calls leave.
use Rattle.std.proofs.Common.{◌≡◌, ℕ, ◌+◌, ◌-◌, max, false, replicate, List, set, refl, ap, arith}
use Rattle.std.proofs.lemmas.List.{take_more_set}
use Rattle.plan.specs.declared.handlers.Handler.{Handler}
use Rattle.plan.specs.declared.plans.Plan.{Plan}
use Rattle.plan.specs.Rows.{blank}
use Rattle.plan.specs.Joins.{linked, joined_in}
use Rattle.plan.specs.Contents.{Contents, contents, empty, round}
use Rattle.plan.specs.Calls.{added, Takes, with_join, MayJoin}
use Rattle.plan.proofs.Facts.{rows_length}
use Rattle.plan.proofs.Kept.{new_facts, new_contents, register_facts, join_facts, join_contents}

-- a plan that holds these contents
pub record Makes (k : Contents) : Type 0 where
  pub plan : Plan
  pub holds : contents plan ≡ k

pub new_made : Makes empty
new_made = record {
  plan = record {
    count = 0;
    round = 1;
    settling = 0;
    handlers = replicate 64 blank;
    joins = replicate 64 (replicate 64 false);
    holds = new_facts;
  };
  holds = new_contents;
}

module _ (p : Plan) where
  pub registered : (h : Handler) → Takes (contents p) h → Makes (added (contents p) h)
  registered h takes = record {
    plan = record {
      count = p.count + 1;
      round = round (added (contents p) h);
      settling = max p.settling h.offset;
      handlers = set p.handlers p.count h;
      joins = p.joins;
      holds = register_facts p h takes (round (added (contents p) h)) (max p.settling h.offset) refl refl;
    };
    holds = ap (λ (hs : List Handler). record { handlers = hs; joined = joined_in p.joins }) (take_more_set p.handlers p.count h (omega (arith, takes.room, rows_length p, p.holds.rows)));
  }

  pub joined : (a b : ℕ) → MayJoin (contents p) a b → Makes (with_join (contents p) a b)
  joined a b may = record {
    plan = record {
      count = p.count;
      round = p.round;
      settling = p.settling;
      handlers = p.handlers;
      joins = linked p.joins (a - 1) (b - 1);
      holds = join_facts p a b may;
    };
    holds = join_contents p a b may;
  }
