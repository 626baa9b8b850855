-- Of specs/JobText and specs/Shown: what a text's file takes lies in the buffer, and what a file's text takes.
use Prim.Native.Nat.{ℕ, ◌≤◌}
use mathlib.Core.Path.{◌≡◌, refl, sym, subst}
use mathlib.Core.Bool.{Bool, true, false}
use mathlib.Core.List.{List}
use borrow.Author.Tests.{leb-true}
use lib.Dec.{leb}
use lib.ListN.{length}
use Rattle.answers.specs.Answer.{Answer, gives, refuses, asks, ◌>>◌}
use Rattle.records.specs.Splice.{put_answer}
use Rattle.demands.specs.Calls.{Outcome, write_job_asks, write_job_call, put, outcome, written_job}
use Rattle.demands.specs.Roles.{operator}
use Rattle.texts.specs.JobText.{TextRead, numbers, faulty, Ending, ends, broken, Made, lists_in, node_count, measured, made_of, made_from, write_text, read_text, most_numbers}
use Rattle.texts.specs.Shown.{shown_text, show_asks, show_text}
use Rattle.nodes.specs.Lists.{zeros}
use Prim.Native.Nat.{◌*◌}

-- a count of bytes lies in a buffer
abbrev IsFew : ℕ → Ending → Type 0
IsFew room (ends (gives k)) = k ≤ room
IsFew room (ends (refuses r)) = Unit {0}
IsFew room (broken before kind) = Unit {0}

put_few : (bytes out : List ℕ) → IsFew (length out) (ends (put_answer bytes out))
put_few bytes out = by (leb (length bytes) (length out)) refl
  where
    by : (t : Bool) → leb (length bytes) (length out) ≡ t → IsFew (length out) (ends (asks 20 t >> gives (length bytes)))
    by true e = leb-true (length bytes) (length out) e
    by false e = tt

outcome_few : {A : Type 0} (a : Answer A) (result : A → List ℕ) (out : List ℕ) → IsFew (length out) (ends (outcome a result out).answer)
unfolding put
outcome_few (gives x) result out = put_few (result x) out
outcome_few (refuses r) result out = tt

module _ (out : List ℕ) where
  of_few : (ns : List ℕ) (m : Answer (List ℕ)) → IsFew (length out) (made_of ns m out).ending
  unfolding write_job_call
  of_few ns (refuses r) = tt
  of_few ns (gives t) = outcome_few (write_job_asks operator (lists_in ns t)) (λ b. written_job (lists_in ns t)) out

  from_few : (t : TextRead) → IsFew (length out) (made_from t out).ending
  from_few (numbers ns) = of_few ns (measured ns (zeros (node_count ns)))
  from_few (faulty before kind) = tt

  pub made_few : (text : List ℕ) (k : ℕ) (m : Made) → m ≡ write_text text out → m.ending ≡ ends (gives k) → k ≤ length out
  made_few text k m e f = subst (IsFew (length out)) f (subst (λ (m : Made). IsFew (length out) m.ending) (sym e) (from_few (read_text (2 * most_numbers) text)))

  pub shown_few : (file : List ℕ) (k : ℕ) (o : Outcome) → o ≡ show_text file out → o.answer ≡ gives k → k ≤ length out
  unfolding show_text
  shown_few file k o e f = subst (λ (a : Answer ℕ). IsFew (length out) (ends a)) f (subst (λ (o : Outcome). IsFew (length out) (ends o.answer)) (sym e) (outcome_few (show_asks file) shown_text out))
