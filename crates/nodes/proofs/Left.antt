-- What an iterator over the members of a set has left, word after word; and a list of members as a sum over it. Serves NodeSet.
use Prim.Native.Nat.{ℕ, zero, suc, ◌+◌, ◌-◌, ◌*◌, ◌/◌, ◌%◌, ◌^◌, ◌≤◌, ◌<◌}
use mathlib.Core.Path.{◌≡◌, refl, sym, ap, ap₂, ◌∙◌, subst, fun_ext}
use mathlib.Core.Bool.{Bool, true, false, cond, not, ◌&&◌, ◌||◌}
use mathlib.Core.List.{List, [], ◌∷◌, ◌++◌}
use mathlib.Core.Logic.{◌⊎◌, inl, inr, ◌≢◌}
use native.Mathlib.Omega.{arith}
use native.Mathlib.Decide.{ℕ_discrete}
use lib.Bits.{bit_and}
use lib.Count.{count_trailing_zeros}
use lib.Dec.{T, eqb, ltb}
use lib.ListN.{get_or, set, length}
use lib.Seq.{get_or-set_same, get_or-set_other}
use Rattle.nodes.specs.Bit.{◌⊕◌, bit}
use Rattle.nodes.specs.Lists.{has}
use Rattle.nodes.specs.Row.{parity, any_below, lowest, members, members_from}
use Rattle.nodes.specs.NodeSet.{word_bits, places, capacity, member_of, member, left_of}
use Rattle.nodes.proofs.Logic.{is_true, from_true, from_false, dec, lt_or_ge, eqb_no, eqb_yes, and_none, and_all, and_assoc, or_false, or_assoc, ⊕_none, ⊕_assoc, ⊕_comm}
use Rattle.nodes.proofs.Row.{ltb_yes, ltb_no, any_in, any_out}
use Rattle.nodes.proofs.Members.{lowest_ext, lowest_none, lowest_here, lowest_unique, members_snoc, members_none}
use Rattle.nodes.proofs.Remove.{removed, removed_other, members-cons}
use Rattle.nodes.proofs.Bit.{bit_zero}
use Rattle.nodes.proofs.Digits.{bit_drop, trailing_lowest}
use Rattle.nodes.proofs.NodeSet.{member_in_past, member_past}
use Rattle.nodes.proofs.NodeSetCount.{word_some, IsNoneBefore, none_before, lowest_in_word}

module _ (ws : List ℕ) (at left v : ℕ) where
  left_here : v / word_bits ≡ at → left_of ws at left v ≡ bit left (v % word_bits)
  unfolding left_of
  left_here h = ap (λ (b : Bool). cond b (bit left (v % word_bits)) (ltb at (v / word_bits) && member_of ws v)) (ap (λ (x : ℕ). eqb x at) h ∙ eqb_yes at)

  left_other : v / word_bits ≢ at → left_of ws at left v ≡ (ltb at (v / word_bits) && member_of ws v)
  unfolding left_of
  left_other h = ap (λ (b : Bool). cond b (bit left (v % word_bits)) (ltb at (v / word_bits) && member_of ws v)) (eqb_no (v / word_bits) at h)

  left_before : v / word_bits < at → left_of ws at left v ≡ false
  left_before h = left_other (λ e. absurd (omega arith)) ∙ ap (λ (b : Bool). b && member_of ws v) (ltb_no at (v / word_bits) (omega arith))

  left_behind : at < v / word_bits → left_of ws at left v ≡ member_of ws v
  left_behind h = left_other (λ e. absurd (omega arith)) ∙ ap (λ (b : Bool). b && member_of ws v) (ltb_yes at (v / word_bits) h)

pub left_start : (ws : List ℕ) → left_of ws 0 (get_or ws 0 0) ≡ member_of ws
unfolding member_of
left_start ws = fun_ext (λ v. by v (ℕ_discrete (v / word_bits) 0))
  where
    by : (v : ℕ) → Dec (v / word_bits ≡ 0) → left_of ws 0 (get_or ws 0 0) v ≡ bit (get_or ws (v / word_bits) 0) (v % word_bits)
    by v (yes e) = left_here ws 0 (get_or ws 0 0) v e ∙ ap (λ (x : ℕ). bit (get_or ws x 0) (v % word_bits)) (sym e)
    by v (no n) = left_behind ws 0 (get_or ws 0 0) v (above n)
      where
        above : v / word_bits ≢ 0 → 0 < v / word_bits
        above n = elim (lt_or_ge 0 (v / word_bits)) as (λ _. 0 < v / word_bits) [ inl a ↦ a | inr a ↦ absurd (n (omega arith)) ]

-- the word at hand is done, and the next one begins
pub left_advance : (ws : List ℕ) (at : ℕ) → left_of ws at 0 ≡ left_of ws (at + 1) (get_or ws (at + 1) 0)
unfolding member_of
left_advance ws at = fun_ext (λ v. by v (ℕ_discrete (v / word_bits) (at + 1)) (ℕ_discrete (v / word_bits) at) (lt_or_ge (v / word_bits) at))
  where
    by : (v : ℕ) → Dec (v / word_bits ≡ at + 1) → Dec (v / word_bits ≡ at) → (v / word_bits < at) ⊎ (at ≤ v / word_bits) → left_of ws at 0 v ≡ left_of ws (at + 1) (get_or ws (at + 1) 0) v
    by v (yes e) d o =
        left_behind ws at 0 v (omega arith) ∙ ap (λ (x : ℕ). bit (get_or ws x 0) (v % word_bits)) e ∙ sym (left_here ws (at + 1) (get_or ws (at + 1) 0) v e)
    by v (no n) (yes e) o = left_here ws at 0 v e ∙ bit_zero (v % word_bits) ∙ sym (left_before ws (at + 1) (get_or ws (at + 1) 0) v (omega arith))
    by v (no n) (no m) (inl l) = left_before ws at 0 v l ∙ sym (left_before ws (at + 1) (get_or ws (at + 1) 0) v (omega arith))
    by v (no n) (no m) (inr l) = let h = past n m l in left_behind ws at 0 v (omega arith) ∙ sym (left_behind ws (at + 1) (get_or ws (at + 1) 0) v h)
      where
        past : v / word_bits ≢ at + 1 → v / word_bits ≢ at → at ≤ v / word_bits → at + 1 < v / word_bits
        past n m l = elim (lt_or_ge (at + 1) (v / word_bits)) as (λ _. at + 1 < v / word_bits) [ inl a ↦ a | inr a ↦ absurd (two n m l a) ]
          where
            two : v / word_bits ≢ at + 1 → v / word_bits ≢ at → at ≤ v / word_bits → v / word_bits ≤ at + 1 → ⊥
            two n m l a = elim (lt_or_ge at (v / word_bits)) as (λ _. ⊥) [ inl b ↦ n (omega arith) | inr b ↦ m (omega arith) ]

-- nothing is left of the last word
pub left_end : (words : ℕ) (ws : List ℕ) (at : ℕ) → at + 1 ≡ words → members (places words) (left_of ws at 0) ≡ []
left_end words ws at e =
    members_none (places words) (left_of ws at 0) (λ t. let (u, l, q) = any_out (places words) (left_of ws at 0) t in from_false (left_of ws at 0 u) (by u l (ℕ_discrete (u / word_bits) at)) q)
  where
    by : (u : ℕ) → u < places words → Dec (u / word_bits ≡ at) → left_of ws at 0 u ≡ false
    by u l (yes d) = left_here ws at 0 u d ∙ bit_zero (u % word_bits)
    by u l (no n) = left_before ws at 0 u (less n)
      where
        less : u / word_bits ≢ at → u / word_bits < at
        less n = elim (lt_or_ge (u / word_bits) at) as (λ _. u / word_bits < at) [ inl a ↦ a | inr a ↦ absurd (n (omega arith)) ]

-- nor behind it
pub left_after : (words : ℕ) (ws : List ℕ) (at left : ℕ) → words ≤ at → members (places words) (left_of ws at left) ≡ []
left_after words ws at left h =
    members_none (places words) (left_of ws at left) (λ t. let (u, l, q) = any_out (places words) (left_of ws at left) t in from_false (left_of ws at left u) (left_before ws at left u (omega arith)) q)

-- the lowest of the word at hand is taken
module _ (words : ℕ) (ws : List ℕ) (at left : ℕ) (h : at < words) (some : left ≢ 0) (small : left < 2 ^ word_bits) where
  abbrev k : ℕ
  k = lowest word_bits (bit left)

  inside : k < word_bits
  inside = word_some left small some

  left_least : lowest (places words) (left_of ws at left) ≡ at * word_bits + k
  left_least = let l = inside in lowest_unique (places words) (left_of ws at left) (at * word_bits + k) (omega arith) (λ u g. by u g (lt_or_ge (u / word_bits) at)) (λ g. here)
    where
      here : left_of ws at left (at * word_bits + k) ≡ true
      here =
          let l = inside in
          let a : (at * word_bits + k) / word_bits ≡ at = omega arith in
          let b : (at * word_bits + k) % word_bits ≡ k = omega arith in
          left_here ws at left (at * word_bits + k) a ∙ ap (bit left) b ∙ lowest_here word_bits (bit left) l

      by : (u : ℕ) → u < at * word_bits + k → (u / word_bits < at) ⊎ (at ≤ u / word_bits) → left_of ws at left u ≡ false
      by u g (inl a) = left_before ws at left u a
      by u g (inr a) = let l = inside in left_here ws at left u (omega arith) ∙ lowest_none word_bits (bit left) (u % word_bits) (omega arith)

  left_dropped : removed (left_of ws at left) (at * word_bits + k) ≡ left_of ws at (bit_and left (left - 1))
  left_dropped = fun_ext (λ u. by u (ℕ_discrete (u / word_bits) at))
    where
      by : (u : ℕ) → Dec (u / word_bits ≡ at) → removed (left_of ws at left) (at * word_bits + k) u ≡ left_of ws at (bit_and left (left - 1)) u
      by u (yes e) =
          ap₂ (λ (a b : Bool). a && not b) (left_here ws at left u e) (same e (ℕ_discrete u (at * word_bits + k)))
          ∙ sym (bit_drop word_bits left (u % word_bits) small) ∙ sym (left_here ws at (bit_and left (left - 1)) u e)
        where
          same : u / word_bits ≡ at → Dec (u ≡ at * word_bits + k) → eqb u (at * word_bits + k) ≡ eqb (u % word_bits) k
          same e (yes p) =
              let l = inside in
              let q : u % word_bits ≡ k = omega arith in
              ap (λ (x : ℕ). eqb x (at * word_bits + k)) p ∙ eqb_yes (at * word_bits + k) ∙ sym (ap (λ (x : ℕ). eqb x k) q ∙ eqb_yes k)
          same e (no n) = eqb_no u (at * word_bits + k) n ∙ sym (eqb_no (u % word_bits) k (λ q. n (omega arith)))
      by u (no n) =
          removed_other (left_of ws at left) (at * word_bits + k) u (λ e. n (let l = inside in omega arith))
          ∙ left_other ws at left u n ∙ sym (left_other ws at (bit_and left (left - 1)) u n)

  pub left_lowest : members (places words) (left_of ws at left) ≡ (word_bits * at + count_trailing_zeros word_bits left) ∷ members (places words) (left_of ws at (bit_and left (left - 1)))
  left_lowest =
      let l = inside in
      let e = left_least in
      let z : at * word_bits + k ≡ word_bits * at + count_trailing_zeros word_bits left = omega (arith, trailing_lowest word_bits left) in
      members-cons (places words) (left_of ws at left) (omega arith)
      ∙ ap (λ (x : ℕ). x ∷ members (places words) (removed (left_of ws at left) x)) e
      ∙ ap₂ (λ (x : ℕ) (s : ℕ → Bool). x ∷ members (places words) s) z left_dropped

-- ---- the first word that is not 0
first_of : (ws : List ℕ) (q : ℕ) → IsNoneBefore ws q → member_of ws ≡ left_of ws q (get_or ws q 0)
unfolding member_of
first_of ws q z = fun_ext (λ v. by v (lt_or_ge (v / word_bits) q) (ℕ_discrete (v / word_bits) q))
  where
    by : (v : ℕ) → (v / word_bits < q) ⊎ (q ≤ v / word_bits) → Dec (v / word_bits ≡ q) → bit (get_or ws (v / word_bits) 0) (v % word_bits) ≡ left_of ws q (get_or ws q 0) v
    by v (inl l) d = none_before ws q z v (omega arith) ∙ sym (left_before ws q (get_or ws q 0) v l)
    by v (inr l) (yes e) = ap (λ (x : ℕ). bit (get_or ws x 0) (v % word_bits)) e ∙ sym (left_here ws q (get_or ws q 0) v e)
    by v (inr l) (no n) = sym (left_behind ws q (get_or ws q 0) v (above n l))
      where
        above : v / word_bits ≢ q → q ≤ v / word_bits → q < v / word_bits
        above n l = elim (lt_or_ge q (v / word_bits)) as (λ _. q < v / word_bits) [ inl a ↦ a | inr a ↦ absurd (n (omega arith)) ]

-- its lowest digit is taken out
pub first_dropped : (words : ℕ) (ws : List ℕ) (q w : ℕ) → length ws ≡ words → q < words → IsNoneBefore ws q → w ≡ get_or ws q 0 → w ≢ 0 → w < 2 ^ word_bits
    → member_of (set ws q (bit_and w (w - 1))) ≡ removed (member_of ws) (lowest (places words) (member_of ws))
unfolding member_of
first_dropped words ws q w e h z is some small =
    first_of after q before ∙ ap (left_of after q) (get_or-set_same ws q x 0 (omega arith)) ∙ fun_ext (λ v. by v (ℕ_discrete (v / word_bits) q))
    ∙ sym (left_dropped words ws q w h some small)
    ∙ ap₂ (λ (s : ℕ → Bool) (k : ℕ). removed s k) (ap (left_of ws q) is ∙ sym (first_of ws q z)) (sym (lowest_in_word words ws q h (rw is at some) (rw is at small) z ∙ ap (λ (y : ℕ). q * word_bits + lowest word_bits (bit y)) (sym is)))
  where
    x : ℕ
    x = bit_and w (w - 1)

    after : List ℕ
    after = set ws q x

    before : IsNoneBefore after q
    before j l = get_or-set_other ws q j x 0 (λ d. absurd (omega arith)) ∙ z j l

    by : (v : ℕ) → Dec (v / word_bits ≡ q) → left_of after q x v ≡ left_of ws q x v
    by v (yes d) = left_here after q x v d ∙ sym (left_here ws q x v d)
    by v (no n) = left_other after q x v n ∙ ap (λ (y : ℕ). ltb q (v / word_bits) && bit y (v % word_bits)) (get_or-set_other ws q (v / word_bits) x 0 n) ∙ sym (left_other ws q x v n)

-- nothing is there to be taken out
pub none_dropped : (words : ℕ) (ws : List ℕ) (k : ℕ) → length ws ≡ words → IsNoneBefore ws words → member_of ws ≡ removed (member_of ws) k
none_dropped words ws k e z = fun_ext (λ u. by u (lt_or_ge u (places words)))
  where
    none : (u : ℕ) → (u < places words) ⊎ (places words ≤ u) → member_of ws u ≡ false
    none u (inl l) = none_before ws words z u l
    none u (inr l) = member_past ws u (omega arith)

    by : (u : ℕ) → (u < places words) ⊎ (places words ≤ u) → member_of ws u ≡ (member_of ws u && not (eqb u k))
    by u d = none u d ∙ sym (ap (λ (b : Bool). b && not (eqb u k)) (none u d))

-- ---- a list of members
pub members_first : (n : ℕ) (s : ℕ → Bool) (k : ℕ) (others : List ℕ) → members n s ≡ k ∷ others → (k ≡ lowest n s) × (k < n) × (others ≡ members n (removed s k))
members_first n s k others e = by (dec (any_below n s))
  where
    by : T (any_below n s) ⊎ (T (any_below n s) → ⊥) → (k ≡ lowest n s) × (k < n) × (others ≡ members n (removed s k))
    by (inl t) = go (lowest n s) refl (lt_or_ge (lowest n s) n)
      where
        go : (m : ℕ) → lowest n s ≡ m → (lowest n s < n) ⊎ (n ≤ lowest n s) → (k ≡ lowest n s) × (k < n) × (others ≡ members n (removed s k))
        go m q (inl l) =
            let c : k ∷ others ≡ lowest n s ∷ members n (removed s (lowest n s)) = sym e ∙ members-cons n s l in
            let a : k ≡ lowest n s = cc in
            let b : others ≡ members n (removed s (lowest n s)) = cc in
            (a, omega arith, b ∙ ap (λ (x : ℕ). members n (removed s x)) (sym a))
        go m q (inr l) = absurd (let (u, i, p) = any_out n s t in from_false (s u) (lowest_none n s u (omega arith)) p)
    by (inr f) = absurd (let c : [] ≡ k ∷ others = sym (members_none n s f) ∙ e in cc)

-- the sum mod 2 of f over a list
abbrev pub odd_over : (ℕ → Bool) → List ℕ → Bool
odd_over f [] = false
odd_over f (k ∷ l) = f k ⊕ odd_over f l

odd-append : (f : ℕ → Bool) (l m : List ℕ) → odd_over f (l ++ m) ≡ odd_over f l ⊕ odd_over f m
odd-append f [] m = refl
odd-append f (k ∷ l) m = ap (λ (b : Bool). f k ⊕ b) (odd-append f l m) ∙ sym (⊕_assoc (f k) (odd_over f l) (odd_over f m))

pub odd-members : (n : ℕ) (f s : ℕ → Bool) → odd_over f (members n s) ≡ parity n (λ k. f k && s k)
unfolding parity members_from
odd-members zero f s = refl
odd-members (suc n) f s =
    ap (odd_over f) (members_snoc n s) ∙ odd-append f (members n s) (cond (s n) (n ∷ []) []) ∙ ap₂ ◌⊕◌ (odd-members n f s) (last (s n))
    ∙ ⊕_comm (parity n (λ k. f k && s k)) (f n && s n)
  where
    last : (b : Bool) → odd_over f (cond b (n ∷ []) []) ≡ (f n && b)
    last true = ⊕_none (f n) ∙ sym (and_all (f n))
    last false = sym (and_none (f n))

-- ---- a loop over the members, by the list of those that are left
has-append : (l m : List ℕ) (u : ℕ) → has (l ++ m) u ≡ (has l u || has m u)
unfolding has
has-append [] m u = refl
has-append (k ∷ l) m u = ap (λ (b : Bool). eqb k u || b) (has-append l m u) ∙ sym (or_assoc (eqb k u) (has l u) (has m u))

pub has-members : (n : ℕ) (s : ℕ → Bool) (u : ℕ) → has (members n s) u ≡ (ltb u n && s u)
unfolding has members_from
has-members zero s u = sym (ap (λ (b : Bool). b && s u) (ltb_no u 0 (omega arith)))
has-members (suc n) s u =
    ap (λ (l : List ℕ). has l u) (members_snoc n s) ∙ has-append (members n s) (cond (s n) (n ∷ []) []) u ∙ ap₂ ◌||◌ (has-members n s u) (last (s n))
    ∙ by (ℕ_discrete u n) (lt_or_ge u n)
  where
    last : (b : Bool) → has (cond b (n ∷ []) []) u ≡ (eqb n u && b)
    last true = or_false (eqb n u) ∙ sym (and_all (eqb n u))
    last false = sym (and_none (eqb n u))

    by : Dec (u ≡ n) → (u < n) ⊎ (n ≤ u) → ((ltb u n && s u) || (eqb n u && s n)) ≡ (ltb u (suc n) && s u)
    by (yes e) o = rw (e, ltb_no n n (omega arith), eqb_yes n, ltb_yes n (suc n) (omega arith)) refl
    by (no d) (inl l) = rw (ltb_yes u n l, ltb_yes u (suc n) (omega arith), eqb_no n u (λ q. d (sym q))) (or_false (s u))
    by (no d) (inr l) = let m = above d l in rw (ltb_no u n l, ltb_no u (suc n) m, eqb_no n u (λ q. d (sym q))) refl
      where
        above : u ≢ n → n ≤ u → suc n ≤ u
        above d l = elim (lt_or_ge n u) as (λ _. suc n ≤ u) [ inl a ↦ a | inr a ↦ absurd (d (omega arith)) ]

-- those in a list
abbrev pub listed : List ℕ → ℕ → Bool
listed l u = has l u

pub all_listed : (n : ℕ) (s : ℕ → Bool) → ((u : ℕ) → n ≤ u → s u ≡ false) → listed (members n s) ≡ s
all_listed n s h = fun_ext (λ u. has-members n s u ∙ by u (lt_or_ge u n))
  where
    by : (u : ℕ) → (u < n) ⊎ (n ≤ u) → (ltb u n && s u) ≡ s u
    by u (inl l) = ap (λ (b : Bool). b && s u) (ltb_yes u n l)
    by u (inr l) = ap (λ (b : Bool). b && s u) (ltb_no u n l) ∙ sym (h u l)

-- those of a set of a job's nodes, which an iterator begins with
pub all_members : (s : List ℕ) (f : ℕ → Bool) → f ≡ member s → listed (members capacity f) ≡ member s
all_members s f e = ap (λ (g : ℕ → Bool). listed (members capacity g)) e ∙ all_listed capacity (member s) (λ u h. member_in_past 2 s u h)

pub none_listed : (n : ℕ) (l : List ℕ) → l ≡ [] → T (any_below n (listed l)) → ⊥
unfolding has
none_listed n l e t = let (u, m, q) = any_out n (listed l) t in from_false (listed l u) (ap (λ (x : List ℕ). has x u) e) q

-- the first of them is the least, and the others are those without it
pub record IsTaken (n : ℕ) (items others : List ℕ) (k : ℕ) : Type 0 where
  pub small : k < n
  pub some : T (any_below n (listed items))
  pub least : k ≡ lowest n (listed items)
  pub rest : listed others ≡ removed (listed items) (lowest n (listed items))

pub taken : (n : ℕ) (s : ℕ → Bool) (items others : List ℕ) (k : ℕ) → items ≡ members n s → items ≡ k ∷ others → IsTaken n items others k
taken n s items others k e f =
    let m = members_first n s k others (sym e ∙ f) in
    let is : (u : ℕ) → listed items u ≡ (ltb u n && s u) = λ u. ap (λ (l : List ℕ). has l u) e ∙ has-members n s u in
    let low : lowest n (listed items) ≡ lowest n s = lowest_ext n (listed items) s (λ u l. is u ∙ ap (λ (b : Bool). b && s u) (ltb_yes u n l)) in
    let here : T (s k) = subst (λ (x : ℕ). T (s x)) (sym m.0) (from_true (s (lowest n s)) (lowest_here n s (omega (arith, m.0, m.1)))) in
    record {
      small = m.1;
      some = any_in n (listed items) k m.1 (from_true (listed items k) (is k ∙ ap (λ (b : Bool). b && s k) (ltb_yes k n m.1) ∙ is_true (s k) here));
      least = m.0 ∙ sym low;
      rest = fun_ext (λ u. ap (λ (l : List ℕ). has l u) m.2 ∙ has-members n (removed s k) u
          ∙ sym (and_assoc (ltb u n) (s u) (not (eqb u k))) ∙ ap₂ (λ (b : Bool) (x : ℕ). b && not (eqb u x)) (sym (is u)) (m.0 ∙ sym low));
    }
