-- Flows: the entries of a sets record and their bytes, the questions of the records as facts, and what follows for the nodes.
use Prim.Native.Nat.{ℕ, zero, suc, ◌+◌, ◌*◌, ◌≤◌, ◌<◌, zero-le}
use mathlib.Core.Path.{◌≡◌, refl, sym, ap, ap₂, ◌∙◌}
use mathlib.Core.Bool.{Bool, true, false, cond, ◌&&◌, ◌||◌, false≢true}
use mathlib.Core.Logic.{◌⊎◌, inl, inr, ◌≢◌}
use mathlib.Core.Option.{Option, none, some, some-injective, none-ne-some}
use mathlib.Core.List.{List, [], ◌∷◌, ◌++◌, append-nil}
use native.Mathlib.Omega.{arith}
use native.Mathlib.Nat.{not-suc-le-zero, lt-suc_self, le_of_suc-le-suc}
use borrow.Author.Tests.{leb-true, ltb-true, eqb-true, le-leb, lt-ltb, eq-eqb, ne_eqb}
use lib.Dec.{T, eqb, ltb, leb, eqb→eq, eqb_refl}
use lib.ListN.{length, get_or, take, drop, length-append, take-append-drop}
use lib.Seq.{length-take-le, take-append_seam, drop-append_seam}
use Rattle.nodes.specs.Options.{is_some}
use Rattle.nodes.proofs.Logic.{and_out, and_all, is_false, from_false, and_l, and_r, or_l, or_r, or_out, or_false, eqb_yes}
use Rattle.answers.specs.Answer.{gives, refuses, refusal, asks, ◌>>◌}
use Rattle.records.specs.Records.{all_yes}
use Rattle.nodes.specs.Lists.{has}
use Rattle.records.specs.JobFile.{mode_causal, nodes_below, rises}
use Rattle.records.specs.FlowFile.{SetEntry, add_entry, entries_in, entries_of, listed, all_entries, entry_below, entries_rise, sets_asks, entry_bytes, entry_of, entry_asks, set_in, entry_in, nothing_left, one_member}
use Rattle.answers.proofs.Answer.{asks_yes}
use Rattle.records.proofs.Records.{asks-then, asks_last}
use Rattle.records.proofs.JobFile.{has_below, rises-length}

-- ---- entries and their bytes
back : (k : ℕ) (es : List SetEntry) → length (entry_bytes es) < k → entries_in k (entry_bytes es) ≡ some es
unfolding entries_in entry_bytes
back zero es h = absurd (not-suc-le-zero h)
back (suc k) [] h = refl
back (suc k) (e ∷ es) h =
    let n : length (e.set ++ entry_bytes es) ≡ length e.set + length (entry_bytes es) = length-append e.set (entry_bytes es) in
    rw (le-leb (length e.set) (length (e.set ++ entry_bytes es)) (omega arith), take-append_seam e.set (entry_bytes es), drop-append_seam e.set (entry_bytes es), back k es (omega arith))

-- any entries are read back
pub entries_back : (es : List SetEntry) → entries_of (entry_bytes es) ≡ some es
entries_back es = back (suc (length (entry_bytes es))) es (lt-suc_self (length (entry_bytes es)))

bytes_of : (k : ℕ) (s : List ℕ) (es : List SetEntry) → entries_in k s ≡ some es → s ≡ entry_bytes es
unfolding entries_in entry_bytes
bytes_of zero s es e = absurd (none-ne-some _ e)
bytes_of (suc k) [] es e = ap entry_bytes (some-injective _ _ e)
bytes_of (suc k) (u ∷ []) es e = absurd (none-ne-some _ e)
bytes_of (suc k) (u ∷ c ∷ s) es e = by (leb c (length s)) refl (bytes_of k (drop c s)) e
  where
    whole : c ≤ length s → (l : List SetEntry) → drop c s ≡ entry_bytes l → u ∷ c ∷ s ≡ u ∷ length (take c s) ∷ take c s ++ entry_bytes l
    whole h l q = rw (length-take-le c s h, ← q, take-append-drop c s)

    more : c ≤ length s → (o : Option (List SetEntry)) → ((l : List SetEntry) → o ≡ some l → drop c s ≡ entry_bytes l) → add_entry (record { node = u; set = take c s }) o ≡ some es → u ∷ c ∷ s ≡ entry_bytes es
    more h none ih e = absurd (none-ne-some _ e)
    more h (some l) ih e = whole h l (ih l refl) ∙ ap entry_bytes (some-injective _ _ e)

    by : (b : Bool) → leb c (length s) ≡ b → ((l : List SetEntry) → entries_in k (drop c s) ≡ some l → drop c s ≡ entry_bytes l) → cond b (add_entry (record { node = u; set = take c s }) (entries_in k (drop c s))) none ≡ some es → u ∷ c ∷ s ≡ entry_bytes es
    by true p ih e = more (leb-true c (length s) p) (entries_in k (drop c s)) ih e
    by false p ih e = absurd (none-ne-some _ e)

-- no other bytes are read so
pub entries_encode : (s : List ℕ) (es : List SetEntry) → entries_of s ≡ some es → s ≡ entry_bytes es
entries_encode s es e = bytes_of (suc (length s)) s es e

-- ---- the questions of each record, as facts
pub framed_out : (o : Option (List SetEntry)) → is_some o ≡ true → o ≡ some (listed o)
framed_out none e = absurd (false≢true e)
framed_out (some es) e = refl

pub sets_out : (n : ℕ) (p : List ℕ) → all_yes (sets_asks n p) ≡ true → (entries_of p ≡ some (listed (entries_of p))) × (all_entries (entry_below n) (listed (entries_of p)) ≡ true) × (entries_rise 0 (listed (entries_of p)) ≡ true)
unfolding sets_asks
sets_out n p e =
    let es = listed (entries_of p) in
    let (a, b) = asks-then 3 (is_some (entries_of p)) (asks 5 (all_entries (entry_below n) es) >> asks 6 (entries_rise 0 es)) e in
    let (c, d) = asks-then 5 (all_entries (entry_below n) es) (asks 6 (entries_rise 0 es)) b in
    (framed_out (entries_of p) a, c, asks_last 6 (entries_rise 0 es) d)

pub sets_in : (n : ℕ) (es : List SetEntry) → all_entries (entry_below n) es ≡ true → entries_rise 0 es ≡ true → all_yes (sets_asks n (entry_bytes es)) ≡ true
unfolding sets_asks
sets_in n es a b = rw (entries_back es, a, b)

-- ---- an entry that is lent alone
pub entry_alone : (p : List ℕ) → length p ≡ 2 + get_or p 1 0 → p ≡ entry_bytes (entry_of p ∷ [])
unfolding entry_bytes
entry_alone [] e = absurd (omega arith)
entry_alone (u ∷ []) e = absurd (omega arith)
entry_alone (u ∷ c ∷ s) e = let same : c ≡ length s = omega arith in rw (← same, append-nil s) refl

pub entry_listed : (p : List ℕ) → length p ≡ 2 + get_or p 1 0 → entries_of p ≡ some (entry_of p ∷ [])
entry_listed p e = ap entries_of (entry_alone p e) ∙ entries_back (entry_of p ∷ [])

pub entry_not : (n : ℕ) (p : List ℕ) → length p ≢ 2 + get_or p 1 0 → entry_asks n p ≡ refuses (refusal 3)
unfolding entry_asks
entry_not n p f = rw (ne_eqb (length p) (2 + get_or p 1 0) f)

-- it is asked what a sets record of this entry is asked
pub entry_sets : (n : ℕ) (p : List ℕ) → length p ≡ 2 + get_or p 1 0 → sets_asks n p ≡ entry_asks n p
unfolding sets_asks entry_asks all_entries entries_rise
entry_sets n p e =
    let below : entry_below n (entry_of p) && true ≡ entry_below n (entry_of p) = and_all (entry_below n (entry_of p)) in
    let rise : leb 0 (get_or p 0 0) && rises 0 (drop 2 p) && true ≡ rises 0 (drop 2 p) = ap (λ (b : Bool). b && rises 0 (drop 2 p) && true) (le-leb 0 (get_or p 0 0) zero-le) ∙ and_all (rises 0 (drop 2 p)) in
    ap (λ (o : Option (List SetEntry)). asks 3 (is_some o) >> (asks 5 (all_entries (entry_below n) (listed o)) >> asks 6 (entries_rise 0 (listed o)))) (entry_listed p e)
    ∙ ap₂ (λ (a b : Bool). asks 5 a >> asks 6 b) below rise
    ∙ ap (λ (a : Bool). asks 3 a >> (asks 5 (entry_below n (entry_of p)) >> asks 6 (rises 0 (drop 2 p)))) (sym (eq-eqb (length p) (2 + get_or p 1 0) e))

pub entry_out : (n : ℕ) (p : List ℕ) (b : Bool) → entry_asks n p ≡ gives b → (length p ≡ 2 + get_or p 1 0) × (entry_below n (entry_of p) ≡ true) × (rises 0 (entry_of p).set ≡ true)
unfolding entry_asks
entry_out n p b e =
    let y : all_yes (entry_asks n p) ≡ true = ap all_yes e in
    let (h, r) = asks-then 3 (eqb (length p) (2 + get_or p 1 0)) (asks 5 (entry_below n (entry_of p)) >> asks 6 (rises 0 (entry_of p).set)) y in
    let (k, t) = asks-then 5 (entry_below n (entry_of p)) (asks 6 (rises 0 (entry_of p).set)) r in
    (eqb-true (length p) (2 + get_or p 1 0) h, k, asks_last 6 (rises 0 (entry_of p).set) t)

-- ---- entries below n and entries that rise: their laws, by which all else goes
pub below_out : (n : ℕ) (e : SetEntry) → entry_below n e ≡ true → (e.node < n) × (nodes_below n e.set ≡ true)
unfolding entry_below
below_out n e a = let (p, q) = and_out (ltb e.node n) (nodes_below n e.set) a in (ltb-true e.node n p, q)

pub below_in : (n : ℕ) (e : SetEntry) → e.node < n → nodes_below n e.set ≡ true → entry_below n e ≡ true
unfolding entry_below
below_in n e h a = rw (lt-ltb e.node n h, a)

pub each_none : (f : SetEntry → Bool) → all_entries f [] ≡ true
unfolding all_entries
each_none f = refl

pub each_cons : (f : SetEntry → Bool) (e : SetEntry) (es : List SetEntry) → all_entries f (e ∷ es) ≡ f e && all_entries f es
unfolding all_entries
each_cons f e es = refl

pub each_out : (f : SetEntry → Bool) (e : SetEntry) (es : List SetEntry) → all_entries f (e ∷ es) ≡ true → (f e ≡ true) × (all_entries f es ≡ true)
each_out f e es a = and_out (f e) (all_entries f es) (sym (each_cons f e es) ∙ a)

pub rise_none : (low : ℕ) → entries_rise low [] ≡ true
unfolding entries_rise
rise_none low = refl

pub rise_out : (low : ℕ) (e : SetEntry) (es : List SetEntry) → entries_rise low (e ∷ es) ≡ true → (low ≤ e.node) × (rises 0 e.set ≡ true) × (entries_rise (e.node + 1) es ≡ true)
unfolding entries_rise
rise_out low e es a =
    let (p, q) = and_out (leb low e.node && rises 0 e.set) (entries_rise (e.node + 1) es) a in
    let (r, t) = and_out (leb low e.node) (rises 0 e.set) p in
    (leb-true low e.node r, t, q)

module _ (low : ℕ) (e : SetEntry) (es : List SetEntry) where
  pub rise-cons : low ≤ e.node → rises 0 e.set ≡ true → entries_rise low (e ∷ es) ≡ entries_rise (e.node + 1) es
  unfolding entries_rise
  rise-cons h a = rw (le-leb low e.node h, a)

-- ---- how many entries and bytes there can be
pub entries_few : (low n : ℕ) (es : List SetEntry) → low ≤ n → all_entries (entry_below n) es ≡ true → entries_rise low es ≡ true → length es + low ≤ n
entries_few low n [] h a b = omega arith
entries_few low n (e ∷ es) h a b =
    let (p, q) = each_out (entry_below n) e es a in
    let (le, r, t) = rise_out low e es b in
    let lt = (below_out n e p).0 in
    let ih : length es + (e.node + 1) ≤ n = entries_few (e.node + 1) n es (omega arith) q t in
    omega arith

pub entry_bytes-length : (low n : ℕ) (es : List SetEntry) → all_entries (entry_below n) es ≡ true → entries_rise low es ≡ true → length (entry_bytes es) ≤ length es * (n + 2)
unfolding entry_bytes
entry_bytes-length low n [] a b = omega arith
entry_bytes-length low n (e ∷ es) a b =
    let (p, q) = each_out (entry_below n) e es a in
    let (le, r, t) = rise_out low e es b in
    let m : length e.set + 0 ≤ n = rises-length 0 n e.set zero-le (below_out n e p).1 r in
    let ih : length (entry_bytes es) ≤ length es * (n + 2) = entry_bytes-length (e.node + 1) n es q t in
    let l : length (e.set ++ entry_bytes es) ≡ length e.set + length (entry_bytes es) = length-append e.set (entry_bytes es) in
    omega arith

-- ---- what follows for the nodes
pub entries_at : (f : SetEntry → Bool) (es : List SetEntry) (d : SetEntry) (i : ℕ) → all_entries f es ≡ true → i < length es → f (get_or es i d) ≡ true
entries_at f [] d i a h = absurd (not-suc-le-zero h)
entries_at f (e ∷ es) d zero a h = (each_out f e es a).0
entries_at f (e ∷ es) d (suc i) a h = entries_at f es d i (each_out f e es a).1 (le_of_suc-le-suc h)

-- a node with a member has an entry
pub set_entry : (es : List SetEntry) (u k : ℕ) → T (set_in es u k) → T (entry_in es u)
unfolding set_in entry_in
set_entry [] u k t = t
set_entry (e ∷ es) u k t = by (or_out (eqb e.node u && has e.set k) (set_in es u k) t) (set_entry es u k)
  where
    by : T (eqb e.node u && has e.set k) ⊎ T (set_in es u k) → (T (set_in es u k) → T (entry_in es u)) → T (eqb e.node u || entry_in es u)
    by (inl t) ih = or_l (eqb e.node u) (entry_in es u) (and_l (eqb e.node u) (has e.set k) t)
    by (inr t) ih = or_r (eqb e.node u) (entry_in es u) (ih t)

-- an entry stands somewhere in the list
pub entry_place : (es : List SetEntry) (d : SetEntry) (u : ℕ) → T (entry_in es u) → (i : ℕ) × (i < length es) × ((get_or es i d).node ≡ u)
unfolding entry_in
entry_place [] d u t = absurd t
entry_place (e ∷ es) d u t = by (or_out (eqb e.node u) (entry_in es u) t) (entry_place es d u)
  where
    by : T (eqb e.node u) ⊎ T (entry_in es u) → (T (entry_in es u) → (i : ℕ) × (i < length es) × ((get_or es i d).node ≡ u)) → (i : ℕ) × (i < suc (length es)) × ((get_or (e ∷ es) i d).node ≡ u)
    by (inl t) ih = (0, omega arith, eqb→eq e.node u t)
    by (inr t) ih = let (i, l, q) = ih t in (suc i, omega arith, q)

pub place_entry : (es : List SetEntry) (d : SetEntry) (i : ℕ) → i < length es → T (entry_in es (get_or es i d).node)
unfolding entry_in
place_entry [] d i h = absurd (not-suc-le-zero h)
place_entry (e ∷ es) d zero h = or_l (eqb e.node e.node) (entry_in es e.node) (eqb_refl e.node)
place_entry (e ∷ es) d (suc i) h = or_r (eqb e.node (get_or es i d).node) (entry_in es (get_or es i d).node) (place_entry es d i (le_of_suc-le-suc h))

-- the nodes of the entries, from where they start to rise
pub entries_above : (low : ℕ) (es : List SetEntry) (d : SetEntry) (i : ℕ) → entries_rise low es ≡ true → i < length es → low ≤ (get_or es i d).node
entries_above low [] d i a h = absurd (not-suc-le-zero h)
entries_above low (e ∷ es) d zero a h = (rise_out low e es a).0
entries_above low (e ∷ es) d (suc i) a h =
    let (le, r, q) = rise_out low e es a in
    let ih : e.node + 1 ≤ (get_or es i d).node = entries_above (e.node + 1) es d i q (le_of_suc-le-suc h) in
    omega arith

pub entries_none : (low : ℕ) (es : List SetEntry) (u : ℕ) → entries_rise low es ≡ true → u < low → entry_in es u ≡ false
entries_none low es u a h = is_false (entry_in es u) (λ t. by (entry_place es d u t))
  where
    d : SetEntry
    d = record { node = 0; set = [] }

    by : (i : ℕ) × (i < length es) × ((get_or es i d).node ≡ u) → ⊥
    by (i, l, q) = bad (entries_above low es d i a l)
      where
        bad : low ≤ (get_or es i d).node → ⊥
        bad le = omega arith

pub no_entry_no_set : (es : List SetEntry) (u k : ℕ) → entry_in es u ≡ false → set_in es u k ≡ false
no_entry_no_set es u k e = is_false (set_in es u k) (λ t. from_false (entry_in es u) e (set_entry es u k t))

-- the members at an entry's node are that entry's: each node has one entry at most
pub set_at : (low : ℕ) (es : List SetEntry) (d : SetEntry) (i k : ℕ) → entries_rise low es ≡ true → i < length es → set_in es (get_or es i d).node k ≡ has (get_or es i d).set k
unfolding set_in
set_at low [] d i k a h = absurd (not-suc-le-zero h)
set_at low (e ∷ es) d zero k a h =
    let q = (rise_out low e es a).2 in
    rw (eqb_yes e.node, no_entry_no_set es e.node k (entries_none (e.node + 1) es e.node q (omega arith))) (or_false (has e.set k))
set_at low (e ∷ es) d (suc i) k a h =
    let q = (rise_out low e es a).2 in
    let l : e.node + 1 ≤ (get_or es i d).node = entries_above (e.node + 1) es d i q (le_of_suc-le-suc h) in
    rw (ne_eqb e.node (get_or es i d).node (omega arith)) (set_at (e.node + 1) es d i k q (le_of_suc-le-suc h))

pub nodes_below_lem : (n : ℕ) (es : List SetEntry) (u : ℕ) → all_entries (entry_below n) es ≡ true → T (entry_in es u) → u < n
unfolding entry_in
nodes_below_lem n [] u a t = absurd t
nodes_below_lem n (e ∷ es) u a t =
    let (p, q) = each_out (entry_below n) e es a in
    by (below_out n e p).0 (or_out (eqb e.node u) (entry_in es u) t) (nodes_below_lem n es u q)
  where
    by : e.node < n → T (eqb e.node u) ⊎ T (entry_in es u) → (T (entry_in es u) → u < n) → u < n
    by l (inl t) ih = rw (← eqb→eq e.node u t) l
    by l (inr t) ih = ih t

pub members_below : (n : ℕ) (es : List SetEntry) (u k : ℕ) → all_entries (entry_below n) es ≡ true → T (set_in es u k) → k < n
unfolding set_in
members_below n [] u k a t = absurd t
members_below n (e ∷ es) u k a t =
    let (p, q) = each_out (entry_below n) e es a in
    by (below_out n e p).1 (or_out (eqb e.node u && has e.set k) (set_in es u k) t) (members_below n es u k q)
  where
    by : nodes_below n e.set ≡ true → T (eqb e.node u && has e.set k) ⊎ T (set_in es u k) → (T (set_in es u k) → k < n) → k < n
    by l (inl t) ih = has_below n e.set k l (and_r (eqb e.node u) (has e.set k) t)
    by l (inr t) ih = ih t

-- ---- the questions that follow
-- nothing is left (8)
pub nothing_left_lem : (rest : List ℕ) (b : Bool) → nothing_left rest ≡ gives b → rest ≡ []
nothing_left_lem [] b e = refl
nothing_left_lem (x ∷ l) b e = absurd (none (length l) (eqb-true (suc (length l)) 0 (asks_yes 8 (eqb (suc (length l)) 0) b e)))
  where
    none : (k : ℕ) → suc k ≡ 0 → ⊥
    none k e = omega arith

-- in mode 1 each entry has one member (9), in the others any number
pub one_member_asked : (es : List SetEntry) (b : Bool) → one_member mode_causal es ≡ gives b → all_entries (λ e. eqb (length e.set) 1) es ≡ true
one_member_asked es b e = asks_yes 9 (all_entries (λ e. eqb (length e.set) 1) es) b e

pub one_member_other : (mode : ℕ) (es : List SetEntry) → mode ≢ mode_causal → one_member mode es ≡ gives true
one_member_other mode es d = rw (ne_eqb mode mode_causal d)

alone : (l : List ℕ) → length l ≡ 1 → (k : ℕ) × ((m : ℕ) → has l m ≡ eqb k m)
unfolding has
alone [] e = absurd (omega arith)
alone (k ∷ []) e = (k, λ m. or_false (eqb k m))
alone (k ∷ x ∷ l) e = absurd (omega arith)

pub one_member_lem : (low : ℕ) (es : List SetEntry) (u : ℕ) → entries_rise low es ≡ true → all_entries (λ e. eqb (length e.set) 1) es ≡ true → T (entry_in es u)
    → (k : ℕ) × ((m : ℕ) → set_in es u m ≡ eqb k m)
one_member_lem low es u a b t = let (i, l, q) = entry_place es d u t in by (get_or es i d) q (eqb-true (length (get_or es i d).set) 1 (entries_at (λ e. eqb (length e.set) 1) es d i b l)) (λ m. set_at low es d i m a l)
  where
    d : SetEntry
    d = record { node = 0; set = [] }

    by : (e : SetEntry) → e.node ≡ u → length e.set ≡ 1 → ((m : ℕ) → set_in es e.node m ≡ has e.set m) → (k : ℕ) × ((m : ℕ) → set_in es u m ≡ eqb k m)
    by e q c h = let (k, f) = alone e.set c in (k, λ m. ap (λ (v : ℕ). set_in es v m) (sym q) ∙ h m ∙ f m)
