-- What the finder writes: read back it is the flow that was found; its bytes, its length; and 0013 is no flow file.
use Prim.Native.Nat.{ℕ, zero, suc, ◌+◌, ◌*◌, ◌≤◌, ◌<◌, zero-le}
use mathlib.Core.Path.{◌≡◌, refl, ap, ap₂, ◌∙◌}
use mathlib.Core.Bool.{Bool, true, false, cond, not, ◌&&◌, ◌||◌}
use mathlib.Core.Logic.{◌⊎◌, inl, inr, ◌≢◌}
use mathlib.Core.Option.{some}
use mathlib.Core.List.{List, [], ◌∷◌, ◌++◌}
use native.Mathlib.Omega.{arith}
use native.Mathlib.Nat.{mul-le-mul}
use borrow.Author.Tests.{ltb-true, lt-ltb, ne_eqb}
use lib.Dec.{T, eqb, ltb, eqb→eq, eqb_refl}
use lib.ListN.{length}
use Rattle.nodes.specs.Row.{members_from, members}
use Rattle.nodes.proofs.Lists.{length-list_of, get_or-list_of}
use Rattle.nodes.proofs.Logic.{and_out, is_false, dec, and_none, and_all, or_false, lt_or_ge, eqb_yes}
use Rattle.nodes.proofs.Row.{ltb_yes, ltb_no}
use Rattle.nodes.proofs.Members.{members_snoc}
use Rattle.flows.specs.Job.{Job}
use Rattle.flows.specs.Search.{Progress}
use Rattle.answers.specs.Answer.{gives}
use Rattle.records.specs.Records.{head_bytes, part, checked, written, kind_wide_layers, kind_sets, kind_no_flow, in_two_bytes}
use Rattle.nodes.specs.Lists.{has, list_of, all}
use Rattle.records.specs.Format.{decode_then}
use Rattle.records.specs.JobFile.{most_nodes, rises}
use Rattle.records.specs.FlowFile.{SetEntry, all_entries, entry_below, entries_rise, entry_bytes, FlowFile, read_flow, set_in, entry_in, flow_of}
use Rattle.records.specs.Encoding.{IsBytes, flow_file_bytes, flow_with, IsValidFlow, entries_for, found_flow}
use Rattle.records.specs.Writing.{flow_bytes, most_output, signal_bytes}
use Rattle.answers.proofs.Answer.{never}
use Rattle.records.proofs.Records.{all-append, all_more, written_bytes}
use Rattle.records.proofs.Layers.{fits_two_bytes, in_bytes}
use Rattle.records.proofs.Encoding.{flow_decodes}
use Rattle.records.proofs.WritingLoops.{flow_length}
use Rattle.records.proofs.SignalFiles.{layers_record, two_records, file_records}
use Rattle.records.proofs.JobFile.{rises_none, rises_out, rises_in, rises-length}
use Rattle.records.proofs.FlowFile.{below_out, below_in, each_none, each_cons, each_out, rise_none, rise_out, rise-cons, entries_few, entry_bytes-length}

-- ---- lists of values
pub list_all : (n : ℕ) (f : ℕ → ℕ) (p : ℕ → Bool) → ((k : ℕ) → k < n → p (f k) ≡ true) → all p (list_of n f) ≡ true
unfolding list_of all
list_all zero f p h = refl
list_all (suc n) f p h = rw (h 0 (omega arith), list_all n (λ k. f (suc k)) p (λ k l. h (suc k) (omega arith)))

-- ---- the members of a set as a list
pub has-append : (l g : List ℕ) (k : ℕ) → has (l ++ g) k ≡ has l k || has g k
unfolding has
has-append [] g k = refl
has-append (x ∷ l) g k = by (eqb x k) (has-append l g k)
  where
    by : (b : Bool) → has (l ++ g) k ≡ has l k || has g k → b || has (l ++ g) k ≡ b || has l k || has g k
    by true e = refl
    by false e = e

-- one number more
one_has : (c : Bool) (n k : ℕ) → has (cond c (n ∷ []) []) k ≡ c && eqb n k
unfolding has
one_has true n k = or_false (eqb n k)
one_has false n k = refl

one_more : (n : ℕ) (s : ℕ → Bool) (k : ℕ) → ltb k n && s k || s n && eqb n k ≡ ltb k (suc n) && s k
one_more n s k = by (lt_or_ge k n) (dec (eqb n k))
  where
    by : (k < n) ⊎ (n ≤ k) → T (eqb n k) ⊎ (T (eqb n k) → ⊥) → ltb k n && s k || s n && eqb n k ≡ ltb k (suc n) && s k
    by (inl h) d = rw (ltb_yes k n h, ltb_yes k (suc n) (omega arith), ne_eqb n k (omega arith), and_none (s n)) (or_false (s k))
    by (inr h) (inl t) = rw (← eqb→eq n k t, ltb_no n n (omega arith), ltb_yes n (suc n) (omega arith), eqb_yes n) (and_all (s n))
    by (inr h) (inr f) =
        let d : n ≢ k = λ e. f (rw e (eqb_refl k)) in
        rw (ltb_no k n h, ltb_no k (suc n) (omega arith), is_false (eqb n k) f) (and_none (s n))

pub members-has : (n : ℕ) (s : ℕ → Bool) (k : ℕ) → has (members n s) k ≡ ltb k n && s k
unfolding has members_from
members-has zero s k = rw (ltb_no k 0 zero-le)
members-has (suc n) s k =
    ap (λ (l : List ℕ). has l k) (members_snoc n s) ∙ has-append (members n s) (cond (s n) (n ∷ []) []) k
    ∙ ap₂ ◌||◌ (members-has n s k) (one_has (s n) n k) ∙ one_more n s k

from_below : (i n m : ℕ) (s : ℕ → Bool) → i + n ≤ m → all (λ v. ltb v m) (members_from i n s) ≡ true
unfolding all members_from
from_below i zero m s h = refl
from_below i (suc n) m s h = by (s i) (from_below (i + 1) n m s (omega arith))
  where
    by : (c : Bool) → all (λ v. ltb v m) (members_from (i + 1) n s) ≡ true → all (λ v. ltb v m) (cond c (i ∷ members_from (i + 1) n s) (members_from (i + 1) n s)) ≡ true
    by true e = rw (lt-ltb i m (omega arith), e)
    by false e = e

pub members_under : (n : ℕ) (s : ℕ → Bool) → all (λ v. ltb v n) (members n s) ≡ true
members_under n s = from_below 0 n n s (omega arith)

from_rise : (low i n : ℕ) (s : ℕ → Bool) → low ≤ i → rises low (members_from i n s) ≡ true
unfolding members_from
from_rise low i zero s h = rises_none low
from_rise low i (suc n) s h = by (s i) (from_rise (i + 1) (i + 1) n s (omega arith)) (from_rise low (i + 1) n s (omega arith))
  where
    by : (c : Bool) → rises (i + 1) (members_from (i + 1) n s) ≡ true → rises low (members_from (i + 1) n s) ≡ true
        → rises low (cond c (i ∷ members_from (i + 1) n s) (members_from (i + 1) n s)) ≡ true
    by true a b = rises_in low i (members_from (i + 1) n s) h ∙ a
    by false a b = b

pub members_rise : (n : ℕ) (s : ℕ → Bool) → rises 0 (members n s) ≡ true
members_rise n s = from_rise 0 0 n s zero-le

-- ---- the entries of the nodes in a list
for_below : (n : ℕ) (set : ℕ → ℕ → Bool) (us : List ℕ) → all (λ v. ltb v n) us ≡ true → all_entries (entry_below n) (entries_for n set us) ≡ true
unfolding all entries_for
for_below n set [] a = each_none (entry_below n)
for_below n set (u ∷ us) a =
    let (p, q) = and_out (ltb u n) (all (λ v. ltb v n) us) a in
    let e : SetEntry = record { node = u; set = members n (set u) } in
    each_cons (entry_below n) e (entries_for n set us) ∙ rw (below_in n e (ltb-true u n p) (members_under n (set u))) (for_below n set us q)

for_rise : (low n : ℕ) (set : ℕ → ℕ → Bool) (us : List ℕ) → rises low us ≡ true → entries_rise low (entries_for n set us) ≡ true
unfolding entries_for
for_rise low n set [] a = rise_none low
for_rise low n set (u ∷ us) a =
    let (p, q) = rises_out low u us a in
    rise-cons low (record { node = u; set = members n (set u) }) (entries_for n set us) p (members_rise n (set u)) ∙ for_rise (u + 1) n set us q

for_entry : (n : ℕ) (set : ℕ → ℕ → Bool) (us : List ℕ) (u : ℕ) → entry_in (entries_for n set us) u ≡ has us u
unfolding entry_in has entries_for
for_entry n set [] u = refl
for_entry n set (a ∷ us) u = rw (for_entry n set us u)

for_set : (n : ℕ) (set : ℕ → ℕ → Bool) (us : List ℕ) (u k : ℕ) → set_in (entries_for n set us) u k ≡ has us u && has (members n (set u)) k
unfolding set_in has entries_for
for_set n set [] u k = refl
for_set n set (a ∷ us) u k = by (dec (eqb a u)) (for_set n set us u k)
  where
    absorb : (a b : Bool) → a || b && a ≡ a
    absorb true b = refl
    absorb false b = and_none b

    by : T (eqb a u) ⊎ (T (eqb a u) → ⊥) → set_in (entries_for n set us) u k ≡ has us u && has (members n (set u)) k
        → eqb a u && has (members n (set a)) k || set_in (entries_for n set us) u k ≡ (eqb a u || has us u) && has (members n (set u)) k
    by (inl t) ih = rw (ih, eqb→eq a u t, eqb_yes u) (absorb (has (members n (set u)) k) (has us u))
    by (inr f) ih = rw (is_false (eqb a u) f) ih

-- ---- bytes and lengths
entry_bytes_lem : (low n : ℕ) (es : List SetEntry) → n < 256 → all_entries (entry_below n) es ≡ true → entries_rise low es ≡ true → IsBytes (entry_bytes es)
unfolding all entry_bytes
entry_bytes_lem low n [] h a b = refl
entry_bytes_lem low n (e ∷ es) h a b =
    let (p, q) = each_out (entry_below n) e es a in
    let (l, p2) = below_out n e p in
    let (le, r, t) = rise_out low e es b in
    let m : length e.set + 0 ≤ n = rises-length 0 n e.set zero-le p2 r in
    rw (lt-ltb e.node 256 (omega arith), lt-ltb (length e.set) 256 (omega arith))
    (all-append (λ b. ltb b 256) e.set (entry_bytes es) (all_more (λ v. ltb v n) (λ v. ltb v 256) e.set (λ v x. let y : v < n = ltb-true v n x in lt-ltb v 256 (omega arith)) p2) (entry_bytes_lem (e.node + 1) n es h q t))

-- a valid flow with layers of the wide kind is bytes, where its layers are below 65,536 and its lists are bytes
pub flow_file_bytes_lem : (n : ℕ) (g : FlowFile) → n < 256 → IsValidFlow n g → g.wide ≡ true → all fits_two_bytes g.layers ≡ true → IsBytes (signal_bytes g.signals) → IsBytes (flow_file_bytes g)
flow_file_bytes_lem n g h v w a b =
    ap (all (λ b. ltb b 256)) (file_records g)
    ∙ all-append (λ b. ltb b 256) (two_records g) (signal_bytes g.signals)
    (all-append (λ b. ltb b 256) (layers_record g) (written kind_sets (entry_bytes g.sets)) (rw w (written_bytes kind_wide_layers (in_two_bytes g.layers) (omega arith) (in_bytes g.layers a))) (written_bytes kind_sets (entry_bytes g.sets) (omega arith) (entry_bytes_lem 0 n g.sets h v.below v.rise)))
    b

-- how long one of two records is
module _ (n : ℕ) (layers : List ℕ) (es : List SetEntry) (v : IsValidFlow n (flow_with layers es)) where
  flow_file_length : length (flow_file_bytes (flow_with layers es)) ≤ 2 * head_bytes + 2 * n + n * (n + 2)
  flow_file_length =
      let few : length es + 0 ≤ n = entries_few 0 n es zero-le v.below v.rise in
      let long : length (entry_bytes es) ≤ length es * (n + 2) = entry_bytes-length 0 n es v.below v.rise in
      let most : length es * (n + 2) ≤ n * (n + 2) = mul-le-mul {n₁ = length es} {m₁ = n + 2} {n₂ = n} {m₂ = n + 2} (omega arith) (omega arith) in
      omega (arith, v.count, flow_length layers es)

-- ---- the finder's file
module _ (j : Job) (s : Progress) where
  pub found_valid : IsValidFlow j.nodes (found_flow j s)
  found_valid = record {
    count = length-list_of j.nodes s.layer;
    below = for_below j.nodes s.set (members j.nodes (λ u. not (j.output u))) (members_under j.nodes (λ u. not (j.output u)));
    rise = for_rise 0 j.nodes s.set (members j.nodes (λ u. not (j.output u))) (members_rise j.nodes (λ u. not (j.output u)));
    lists = tt;
  }

  -- it is read back
  pub found_reads : j.nodes ≤ most_nodes → read_flow j.nodes (flow_bytes j (some s)) ≡ gives (found_flow j s)
  found_reads h = flow_decodes j.nodes (found_flow j s) h found_valid refl

  -- as the flow that was found
  pub found_layer : (u : ℕ) → u < j.nodes → (flow_of (found_flow j s)).layer u ≡ s.layer u
  found_layer u h = get_or-list_of j.nodes s.layer u h

  pub found_entry : (u : ℕ) → u < j.nodes → (flow_of (found_flow j s)).entry u ≡ not (j.output u)
  found_entry u h =
      for_entry j.nodes s.set (members j.nodes (λ u. not (j.output u))) u
      ∙ members-has j.nodes (λ u. not (j.output u)) u ∙ ap (λ (b : Bool). b && not (j.output u)) (ltb_yes u j.nodes h)

  pub found_set : (u k : ℕ) → u < j.nodes → k < j.nodes → (flow_of (found_flow j s)).set u k ≡ not (j.output u) && s.set u k
  found_set u k h l =
      for_set j.nodes s.set (members j.nodes (λ u. not (j.output u))) u k
      ∙ ap₂ ◌&&◌ (members-has j.nodes (λ u. not (j.output u)) u ∙ ap (λ (b : Bool). b && not (j.output u)) (ltb_yes u j.nodes h))
      (members-has j.nodes (s.set u) k ∙ ap (λ (b : Bool). b && s.set u k) (ltb_yes k j.nodes l))

  pub found_bytes_lem : j.nodes ≤ most_nodes → ((u : ℕ) → u < j.nodes → s.layer u < 65536) → IsBytes (flow_bytes j (some s))
  unfolding all
  found_bytes_lem h a =
      flow_file_bytes_lem j.nodes (found_flow j s) (omega arith) found_valid refl (list_all j.nodes s.layer fits_two_bytes (λ k l. lt-ltb (s.layer k) 65536 (a k l))) refl

  pub found_length : length (flow_bytes j (some s)) ≤ 2 * head_bytes + 2 * j.nodes + j.nodes * (j.nodes + 2)
  found_length = flow_file_length j.nodes _ _ found_valid

  pub found_most : j.nodes ≤ most_nodes → length (flow_bytes j (some s)) ≤ most_output
  found_most h =
      let a : j.nodes * (j.nodes + 2) ≤ most_nodes * (most_nodes + 2) = mul-le-mul {n₁ = j.nodes} {m₁ = j.nodes + 2} {n₂ = most_nodes} {m₂ = most_nodes + 2} (omega arith) (omega arith) in
      omega (arith, found_length)

-- ---- 0013
pub no_flow_unread : (n : ℕ) (g : FlowFile) → read_flow n (written kind_no_flow []) ≢ gives g
unfolding read_flow decode_then checked part written
no_flow_unread n g e = never e
