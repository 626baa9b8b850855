-- For both.rt and verify.rt: from the records that were read to both files, and to the verdict.
use Prim.Native.Nat.{ℕ, ◌≤◌, ◌<◌}
use mathlib.Core.Path.{◌≡◌, refl}
use mathlib.Core.Bool.{true, false}
use mathlib.Core.Option.{Option, none, some}
use mathlib.Core.List.{List, [], ◌∷◌}
use native.Mathlib.Omega.{arith}
use borrow.Author.Tests.{ltb-true, lt-ltb}
use lib.Dec.{ltb}
use Rattle.nodes.specs.NodeSet.{capacity}
use Rattle.answers.specs.Answer.{Refusal, refusal, gives, refuses}
use Rattle.nodes.proofs.Logic.{and_out}
use Rattle.records.specs.Records.{written, kind_accepted}
use Rattle.records.specs.JobFile.{JobFile, most_nodes, working_of, job_of}
use Rattle.records.specs.FlowFile.{SetEntry, FlowFile, all_entries, entry_below, flow_of}
use Rattle.verdicts.specs.Verdict.{verify}
use Rattle.answers.specs.Refusals.{asked_of}
use Rattle.answers.specs.declared.Refusal.{Refusal as Refused}
use Rattle.std.specs.Prelude.{Result, Ok}
use Rattle.records.specs.Encoding.{IsValidFlow}
use Rattle.demands.specs.Calls.{verdict, lists_match, judge, verify_asks, put, verify_call}
use Rattle.records.specs.Views.{flow_held}
use Rattle.calls.specs.Loaded.{IsRead, IsEntriesFor}
use Rattle.records.specs.declared.job_file.JobFile as JobRead
use Rattle.records.specs.declared.flow_file.FlowFile as FlowRead
use Rattle.records.proofs.Records.{all_more}
use Rattle.records.proofs.FlowFile.{below_out, below_in}
use Rattle.records.proofs.Encoding.{flow_asked}

-- ---- every node that was read fits a set
pub entries_fit : (n : ℕ) (es : List SetEntry) → n ≤ most_nodes → all_entries (entry_below n) es ≡ true → all_entries (entry_below capacity) es ≡ true
unfolding all_entries
entries_fit n [] h t = refl
entries_fit n (e ∷ es) h t =
    let (a, b) = and_out (entry_below n e) (all_entries (entry_below n) es) t in
    let (x, y) = below_out n e a in
    rw (below_in capacity e (omega arith) (all_more (λ v. ltb v n) (λ v. ltb v capacity) e.set (λ v t. let g : v < n = ltb-true v n t in lt-ltb v capacity (omega arith)) y))
    (entries_fit n es h b)

-- what reading has asked, of both
module _ (job : JobRead.JobFile) (flow : FlowRead.FlowFile) (h : IsRead job flow) where
  pub flow_valid : IsValidFlow job.n (flow_held flow)
  flow_valid = flow_asked job.n job.after.now (flow_held flow) h.valid.few h.reads

  pub entries_read : IsEntriesFor job.n flow.sets.now
  entries_read = record { below = flow_valid.below; rise = flow_valid.rise }

-- ---- judging: 13 to 19, then 22
module _ (f : JobFile) (g : FlowFile) where
  pub judge_stops : (o : Option Refusal) (r : Refusal) → o ≡ verify (job_of f) (flow_of g) (working_of f).mode → o ≡ some r → verdict o ≡ judge f g
  unfolding judge
  judge_stops o r e h = rw (← e, h)

  module _ (e : none ≡ verify (job_of f) (flow_of g) (working_of f).mode) where
    pub judge_differs : lists_match f g ≡ false → refuses (refusal 22) ≡ judge f g
    unfolding judge
    judge_differs m = rw (← e, m)

    pub judge_accepts : lists_match f g ≡ true → gives true ≡ judge f g
    unfolding judge
    judge_accepts m = rw (← e, m)

-- ---- the answer
module _ (s out : List ℕ) (r : Result Unit Refused) (e : verdict (asked_of r) ≡ verify_asks s) where
  pub call_passed : r ≡ Ok tt → put [] (written kind_accepted []) out ≡ verify_call s out
  unfolding verify_call
  call_passed t = rw (← e, t)
