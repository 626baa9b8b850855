-- For question 7 as the code asks it: no byte is above the mode's highest, and the zeros are those of the outputs.
use Prim.Native.Nat.{ℕ, suc, ◌+◌, ◌<◌}
use mathlib.Core.Path.{◌≡◌, sym, ◌∙◌}
use mathlib.Core.Bool.{Bool, true, false, ◌&&◌}
use mathlib.Core.Logic.{◌⊎◌, inl, inr}
use mathlib.Core.List.{List, [], ◌∷◌}
use native.Mathlib.Omega.{arith}
use borrow.Author.Tests.{ltb-true, eqb-true, eq-eqb, ne_eqb}
use lib.Dec.{T, eqb, ltb}
use lib.ListN.{length, get_or}
use Rattle.nodes.specs.Lists.{has, all}
use Rattle.nodes.specs.Row.{count}
use Rattle.nodes.proofs.Logic.{and_out, is_true, from_true, and_l, and_r, and_in, beq_eq}
use Rattle.nodes.proofs.Count.{count_ext, grows}
use Rattle.records.specs.JobFile.{highest_of, allows, all_allowed}
use Rattle.records.proofs.NodeLists.{has-all}
use Rattle.records.proofs.JobFile.{output_out, measured_out, allows_in, allowed_none, allowed-cons, all-has, has_below, allowed_at, allowed_below}

-- ---- bytes that are 0
abbrev pub zero_at : List ℕ → ℕ → Bool
zero_at l u = eqb (get_or l u 0) 0

allows_zero : (mode : ℕ) (output : Bool) (m : ℕ) → allows mode output m ≡ true → output ≡ eqb m 0
allows_zero mode true m e = rw (output_out mode m e)
allows_zero mode false m e = sym (ne_eqb m 0 (λ z. omega (arith, (measured_out mode m e).0)))

allowed_in : (mode : ℕ) (output : ℕ → Bool) (i : ℕ) (l : List ℕ) → all (λ v. ltb v (highest_of mode + 1)) l ≡ true → ((k : ℕ) → k < length l → output (i + k) ≡ zero_at l k) → all_allowed mode output i l ≡ true
unfolding all
allowed_in mode output i [] a z = allowed_none mode output i
allowed_in mode output i (m ∷ l) a z =
    let (p, q) = and_out (ltb m (highest_of mode + 1)) (all (λ v. ltb v (highest_of mode + 1)) l) a in
    let e : i + 0 ≡ i = omega arith in
    let here : output i ≡ eqb m 0 = rw e at (z 0 (omega arith)) in
    let below : m < highest_of mode + 1 = ltb-true m (highest_of mode + 1) p in
    allowed-cons mode output i m l ∙ rw (here, allows_in mode m (omega arith)) (allowed_in mode output (i + 1) l q (λ k h. let d : i + 1 + k ≡ i + suc k = omega arith in rw d (z (suc k) (omega arith))))

-- ---- the zeros are those of the outputs: as many as the m distinct ones, and one at each
module _ (l outs : List ℕ) (m : ℕ) (a : all (λ v. ltb v (length l)) outs ≡ true) (d : count (length l) (has outs) ≡ m) where
  zeros_out : ((k : ℕ) → k < length l → has outs k ≡ zero_at l k) → (count (length l) (zero_at l) ≡ m) × (all (zero_at l) outs ≡ true)
  zeros_out z = (
    sym (count_ext (length l) (has outs) (zero_at l) z) ∙ d,
    has-all (zero_at l) outs (λ u t. sym (z u (has_below (length l) outs u a t)) ∙ is_true (has outs u) t),
  )

  zeros_in : count (length l) (zero_at l) ≡ m → all (zero_at l) outs ≡ true → (k : ℕ) → k < length l → has outs k ≡ zero_at l k
  zeros_in e b k h = beq_eq (has outs k) (zero_at l k) (within k) (by (grows (length l) (has outs) (zero_at l) (λ v g. within v)))
    where
      within : (v : ℕ) → T (has outs v) → T (zero_at l v)
      within v t = from_true (zero_at l v) (all-has (zero_at l) outs v b t)

      by : (count (length l) (has outs) < count (length l) (zero_at l)) ⊎ ((count (length l) (has outs) ≡ count (length l) (zero_at l)) × ((v : ℕ) → v < length l → T (zero_at l v) → T (has outs v))) → T (zero_at l k) → T (has outs k)
      by (inl c) = absurd (omega (arith, d))
      by (inr (c, w)) = w k h

  pub allowed_tests : (mode : ℕ) → all_allowed mode (has outs) 0 l ≡ all (λ v. ltb v (highest_of mode + 1)) l && (eqb (count (length l) (zero_at l)) m && all (zero_at l) outs)
  allowed_tests mode = beq_eq (all_allowed mode (has outs) 0 l) (low && (many && at)) there back
    where
      low : Bool
      low = all (λ v. ltb v (highest_of mode + 1)) l

      many : Bool
      many = eqb (count (length l) (zero_at l)) m

      at : Bool
      at = all (zero_at l) outs

      there : T (all_allowed mode (has outs) 0 l) → T (low && (many && at))
      there t =
          let e = is_true (all_allowed mode (has outs) 0 l) t in
          let (c, z) = zeros_out (λ k h. let o : 0 + k ≡ k = omega arith in allows_zero mode (has outs k) (get_or l k 0) (rw o at (allowed_at mode (has outs) 0 l k e h))) in
          and_in low (many && at) (from_true low (allowed_below mode (has outs) 0 l e)) (and_in many at (from_true many (eq-eqb (count (length l) (zero_at l)) m c)) (from_true at z))

      back : T (low && (many && at)) → T (all_allowed mode (has outs) 0 l)
      back t =
          let rest = and_r low (many && at) t in
          let c = eqb-true (count (length l) (zero_at l)) m (is_true many (and_l many at rest)) in
          let z = is_true at (and_r many at rest) in
          from_true (all_allowed mode (has outs) 0 l) (allowed_in mode (has outs) 0 l (is_true low (and_l low (many && at) t)) (λ k h. let o : 0 + k ≡ k = omega arith in rw o (zeros_in c z k h)))
