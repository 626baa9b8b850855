-- Writing one thing after the other is writing both at once.
use Prim.Native.Nat.{ℕ, zero, suc, ◌+◌, ◌≤◌, ◌<◌}
use mathlib.Core.Path.{◌≡◌, refl, sym, ap, ap₂, ◌∙◌, subst}
use mathlib.Core.List.{List, [], ◌∷◌, ◌++◌, append_assoc}
use native.Mathlib.Omega.{arith}
use lib.ListN.{length, set, take, drop, length-append, take-append-drop}
use lib.Seq.{length-take-le, take-append_seam, drop-append_seam, drop-drop}
use Rattle.records.specs.Records.{head_of, written}
use Rattle.records.specs.Splice.{splice}

take_of : (n : ℕ) (a b : List ℕ) → length a ≡ n → take n (a ++ b) ≡ a
take_of n a b e = subst (λ (n : ℕ). take n (a ++ b) ≡ a) e (take-append_seam a b)

drop_of : (n : ℕ) (a b : List ℕ) → length a ≡ n → drop n (a ++ b) ≡ b
drop_of n a b e = subst (λ (n : ℕ). drop n (a ++ b) ≡ b) e (drop-append_seam a b)

pub splice_none : (at : ℕ) (l : List ℕ) → splice at [] l ≡ l
unfolding splice
splice_none at l = ap (λ (k : ℕ). take at l ++ drop k l) (nothing at) ∙ take-append-drop at l
  where
    nothing : (at : ℕ) → at + 0 ≡ at
    nothing at = omega arith

pub splice-splice : (at : ℕ) (a b l : List ℕ) → at + length a + length b ≤ length l → splice (at + length a) b (splice at a l) ≡ splice at (a ++ b) l
unfolding splice
splice-splice at a b l h =
    ap₂ ◌++◌ front (ap (λ (x : List ℕ). b ++ x) back) ∙ append_assoc (take at l) a (b ++ drop (at + length (a ++ b)) l)
    ∙ ap (λ (x : List ℕ). take at l ++ x) (sym (append_assoc a b (drop (at + length (a ++ b)) l)))
  where
    start : length (take at l ++ a) ≡ at + length a
    start = length-append (take at l) a ∙ ap (λ (k : ℕ). k + length a) (length-take-le at l (omega arith))

    regroup : take at l ++ (a ++ drop (at + length a) l) ≡ (take at l ++ a) ++ drop (at + length a) l
    regroup = sym (append_assoc (take at l) a (drop (at + length a) l))

    front : take (at + length a) (take at l ++ (a ++ drop (at + length a) l)) ≡ take at l ++ a
    front = ap (take (at + length a)) regroup ∙ take_of (at + length a) (take at l ++ a) (drop (at + length a) l) start

    back : drop (at + length a + length b) (take at l ++ (a ++ drop (at + length a) l)) ≡ drop (at + length (a ++ b)) l
    back =
        ap (drop (at + length a + length b)) regroup
        ∙ sym (drop-drop (length b) (at + length a) ((take at l ++ a) ++ drop (at + length a) l))
        ∙ ap (drop (length b)) (drop_of (at + length a) (take at l ++ a) (drop (at + length a) l) start)
        ∙ drop-drop (length b) (at + length a) l
        ∙ ap (λ (k : ℕ). drop k l) places
      where
        places : at + length a + length b ≡ at + length (a ++ b)
        places = omega (arith, length-append a b)

-- one byte
pub set-splice : (l : List ℕ) (at x : ℕ) → at < length l → set l at x ≡ splice at (x ∷ []) l
unfolding splice
set-splice [] at x h = absurd (none_of at h)
  where
    none_of : (at : ℕ) → at < 0 → ⊥
    none_of at h = omega arith
set-splice (y ∷ l) zero x h = refl
set-splice (y ∷ l) (suc at) x h = ap (λ (r : List ℕ). y ∷ r) (set-splice l at x (omega arith)) ∙ ap (λ (k : ℕ). y ∷ take at l ++ (x ∷ drop k (y ∷ l))) (move at)
  where
    move : (at : ℕ) → suc (at + 1) ≡ suc at + 1
    move at = omega arith

-- one thing behind another
pub splice_next : (at k : ℕ) (a b l m : List ℕ) → k ≡ at + length a → k + length b ≤ length l → m ≡ splice at a l → splice k b m ≡ splice at (a ++ b) l
splice_next at k a b l m e h p = ap₂ (λ (q : ℕ) (r : List ℕ). splice q b r) e p ∙ splice-splice at a b l (omega arith)

-- one byte more
pub splice_more : (at k : ℕ) (a : List ℕ) (x : ℕ) (l m : List ℕ) → k ≡ at + length a → k < length l → m ≡ splice at a l → splice k (x ∷ []) m ≡ splice at (a ++ (x ∷ [])) l
splice_more at k a x l m e h p = splice_next at k a (x ∷ []) l m e (omega arith) p

-- the first byte, and then the others
pub splice-cons : (at : ℕ) (x : ℕ) (b l m : List ℕ) → at + 1 + length b ≤ length l → m ≡ splice at (x ∷ []) l → splice (at + 1) b m ≡ splice at (x ∷ b) l
splice-cons at x b l m h p = ap (splice (at + 1) b) p ∙ splice-splice at (x ∷ []) b l h

-- ---- at the front of a buffer: a part, and behind it another
pub front_twice : (a b out : List ℕ) → take (length a) (a ++ drop (length a) out) ++ (b ++ drop (length b) (drop (length a) (a ++ drop (length a) out))) ≡ (a ++ b) ++ drop (length (a ++ b)) out
front_twice a b out =
    let t = take-append_seam a (drop (length a) out) in
    let d = drop-append_seam a (drop (length a) out) in
    rw (t, d, drop-drop (length b) (length a) out, ← length-append a b) (sym (append_assoc a b (drop (length (a ++ b)) out)))

pub record_length : (kind : ℕ) (p : List ℕ) → length (written kind p) ≡ 6 + length p
unfolding written
record_length kind p = length-append (head_of (length p) kind) p ∙ omega arith

pub record_front : (kind : ℕ) (p out : List ℕ) → head_of (length p) kind ++ (p ++ drop (length p) (drop 6 out)) ≡ written kind p ++ drop (length (written kind p)) out
unfolding written
record_front kind p out =
    let head = head_of (length p) kind in
    let long : 6 + length p ≡ length (written kind p) = sym (record_length kind p) in
    ap (λ (t : List ℕ). head ++ (p ++ t)) (drop-drop (length p) 6 out ∙ ap (λ (k : ℕ). drop k out) long) ∙ sym (append_assoc head p (drop (length (written kind p)) out))

pub splice_front : (b l : List ℕ) → splice 0 b l ≡ b ++ drop (length b) l
unfolding splice
splice_front b l = let start : 0 + length b ≡ length b = omega arith in rw start refl
