-- For find.rt: what is written from the finder's tables is the flow file of what its search found.
use Prim.Native.Nat.{ℕ, ◌+◌, ◌*◌, ◌/◌, ◌%◌, ◌≤◌, ◌<◌}
use mathlib.Core.Path.{◌≡◌, refl, sym, ap, ap₂, ◌∙◌, fun_ext}
use mathlib.Core.Bool.{Bool, true, cond, not, ◌&&◌}
use mathlib.Core.Logic.{◌⊎◌, inl, inr}
use mathlib.Core.Option.{some}
use mathlib.Core.List.{List, [], ◌∷◌}
use native.Mathlib.Omega.{arith}
use borrow.Author.Tests.{ltb-true}
use lib.Dec.{leb, ltb}
use lib.ListN.{take}
use lib.Seq.{length-take-le, get_or-take}
use Rattle.nodes.specs.Bit.{bit, digits}
use Rattle.nodes.specs.Row.{members}
use Rattle.nodes.specs.NodeSet.{word_bits, highest, capacity}
use Rattle.nodes.specs.SetTable.{set_words, set_at, table_words}
use Rattle.nodes.proofs.Logic.{is_false, lt_or_ge, and_out}
use Rattle.nodes.proofs.Row.{ltb_yes, ltb_no}
use Rattle.nodes.proofs.Members.{members_ext, members_past}
use Rattle.nodes.proofs.SetTable.{set_in, set_past}
use Rattle.nodes.proofs.NodeSet.{below_within}
use Rattle.nodes.specs.Lists.{list_of, all}
use Rattle.nodes.proofs.Lists.{length-list_of, get_or-list_of, is_list_of}
use Rattle.nodes.proofs.Digits.{bit-digits}
use Rattle.flows.specs.Job.{Job}
use Rattle.flows.specs.Search.{Progress}
use Rattle.finder.specs.Searches.{layers_of, set_table}
use Rattle.finder.proofs.Below.{IsBelow}
use Rattle.records.specs.FlowFile.{SetEntry}
use Rattle.records.specs.Encoding.{flow_file_bytes, flow_with, entries_for}
use Rattle.records.specs.Writing.{flow_records, flow_bytes}
use Rattle.records.proofs.Writing.{members_under}

module _ (n : ℕ) (few : n ≤ capacity) (p : Progress) where
  layers_found : take n (layers_of n p) ≡ list_of n p.layer
  layers_found =
      is_list_of (take n (layers_of n p)) n p.layer (length-take-le n (layers_of n p) (omega (arith, length-list_of capacity (λ u. cond (ltb u n) (p.layer u) 0)))) (λ k h.
      get_or-take n (layers_of n p) k 0 h ∙ get_or-list_of capacity (λ u. cond (ltb u n) (p.layer u) 0) k (omega arith)
      ∙ ap (λ (b : Bool). cond b (p.layer k) 0) (ltb_yes k n h))

  set_found : (u : ℕ) → u < n → IsBelow n (p.set u) → set_at (set_table n p) u ≡ p.set u
  set_found u l h = fun_ext (λ k. by k (lt_or_ge k capacity))
    where
      by : (k : ℕ) → (k < capacity) ⊎ (capacity ≤ k) → set_at (set_table n p) u k ≡ p.set u k
      by k (inl s) =
          let i = set_words * u + k / word_bits in
          let node : i / set_words ≡ u = omega arith in
          let place : word_bits * (i % set_words) + k % word_bits ≡ k = omega arith in
          set_in (set_table n p) u k s
          ∙ ap (λ (x : ℕ). bit x (k % word_bits)) (get_or-list_of table_words (λ i. digits word_bits (λ t. ltb (i / set_words) n && p.set (i / set_words) (word_bits * (i % set_words) + t))) i (omega arith))
          ∙ bit-digits word_bits (λ t. ltb (i / set_words) n && p.set (i / set_words) (word_bits * (i % set_words) + t)) (k % word_bits) (omega arith)
          ∙ ap₂ (λ (v q : ℕ). ltb v n && p.set v q) node place ∙ ap (λ (b : Bool). b && p.set u k) (ltb_yes u n l)
      by k (inr s) = set_past (set_table n p) u k s ∙ sym (is_false (p.set u k) (λ t. past k s (h k t)))
        where
          past : (k : ℕ) → capacity ≤ k → k < n → ⊥
          past k s m = omega arith

  members_found : (u : ℕ) → u < n → IsBelow n (p.set u) → members capacity (set_at (set_table n p) u) ≡ members n (p.set u)
  members_found u l h =
      ap (members capacity) (set_found u l h) ∙ members_past n capacity (p.set u) few (λ k g. is_false (p.set u k) (λ t. past k g (h k t)))
    where
      past : (k : ℕ) → n ≤ k → k < n → ⊥
      past k g m = omega arith

  sets_found : ((u : ℕ) → u < n → IsBelow n (p.set u)) → (us : List ℕ) → all (λ v. ltb v n) us ≡ true → entries_for capacity (set_at (set_table n p)) us ≡ entries_for n p.set us
  unfolding all entries_for
  sets_found h [] a = refl
  sets_found h (u ∷ us) a =
      let (b, r) = and_out (ltb u n) (all (λ v. ltb v n) us) a in
      let l : u < n = ltb-true u n b in
      ap₂ (λ (m : List ℕ) (s : List SetEntry). record { node = u; set = m } ∷ s) (members_found u l (h u l)) (sets_found h us r)

  -- an entry for each node that is no output
  nodes_found : (s output : ℕ → Bool) → s ≡ (λ u. (ltb u n && leb u highest) && not (output u)) → members capacity s ≡ members n (λ u. not (output u))
  nodes_found s output e =
      ap (members capacity) e ∙ members_past n capacity (λ u. (ltb u n && leb u highest) && not (output u)) few (λ k g. rw (ltb_no k n g))
      ∙ members_ext n (λ u. (ltb u n && leb u highest) && not (output u)) (λ u. not (output u)) (λ k g. ap (λ (b : Bool). b && not (output k)) (sym (below_within k n highest few) ∙ ltb_yes k n g))

  pub found_written : (j : Job) → j.nodes ≡ n → ((u : ℕ) → u < n → IsBelow n (p.set u))
      → (s : ℕ → Bool) → s ≡ (λ u. (ltb u n && leb u highest) && not (j.output u))
      → flow_records (take n (layers_of n p)) capacity (set_at (set_table n p)) (members capacity s) ≡ flow_bytes j (some p)
  found_written j e h s q =
      ap₂ (λ (l us : List ℕ). flow_records l capacity (set_at (set_table n p)) us) layers_found (nodes_found s j.output q)
      ∙ ap (λ (es : List SetEntry). flow_file_bytes (flow_with (list_of n p.layer) es)) (sets_found h (members n (λ u. not (j.output u))) (members_under n (λ u. not (j.output u))))
      ∙ ap (λ (m : ℕ). flow_records (list_of m p.layer) m p.set (members m (λ u. not (j.output u)))) (sym e)
