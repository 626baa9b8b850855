-- Records: read with bytes behind them, read back as they were written, and the only bytes that are read so.
use Prim.Native.Nat.{ℕ, zero, suc, ◌+◌, ◌*◌, ◌/◌, ◌%◌, ◌≤◌, ◌<◌}
use mathlib.Core.Path.{◌≡◌, refl, sym, ap, ◌∙◌}
use mathlib.Core.Bool.{Bool, true, false, ◌&&◌, false≢true}
use mathlib.Core.List.{List, [], ◌∷◌, ◌++◌}
use native.Mathlib.Omega.{arith}
use native.Mathlib.Nat.{not-suc-le-zero, le_of_suc-le-suc}
use borrow.Author.Tests.{leb-true, ltb-true, eqb-true, le-leb, lt-ltb, eq-eqb}
use lib.Dec.{eqb, ltb, leb}
use lib.ListN.{length, get_or, take, drop, length-append, length-drop, take-append-drop, get_or-append}
use lib.Seq.{length-take-le, take-append-le, drop-append-le, take-append_seam, drop-append_seam}
use Rattle.nodes.proofs.Logic.{and_out}
use Rattle.answers.specs.Answer.{Answer, gives, refuses, ◌>>◌, asks}
use Rattle.answers.proofs.Answer.{give_inj, never, asks_out, bind_out}
use Rattle.records.specs.Records.{Part, part, all_yes, checked, each_asks, written, length_field, kind_field}
use Rattle.nodes.specs.Lists.{all}
use Rattle.records.specs.Encoding.{IsBytes}

-- ---- every element passes
pub all-append : (f : ℕ → Bool) (l g : List ℕ) → all f l ≡ true → all f g ≡ true → all f (l ++ g) ≡ true
unfolding all
all-append f [] g a b = b
all-append f (x ∷ l) g a b = let (p, q) = and_out (f x) (all f l) a in rw (p, all-append f l g q b)

pub all_left : (f : ℕ → Bool) (l g : List ℕ) → all f (l ++ g) ≡ true → all f l ≡ true
unfolding all
all_left f [] g a = refl
all_left f (x ∷ l) g a = let (p, q) = and_out (f x) (all f (l ++ g)) a in rw (p, all_left f l g q)

pub all_right : (f : ℕ → Bool) (l g : List ℕ) → all f (l ++ g) ≡ true → all f g ≡ true
unfolding all
all_right f [] g a = a
all_right f (x ∷ l) g a = all_right f l g (and_out (f x) (all f (l ++ g)) a).1

pub below_at : (n : ℕ) (l : List ℕ) (i : ℕ) → all (λ v. ltb v n) l ≡ true → i < length l → get_or l i 0 < n
unfolding all
below_at n [] i a h = absurd (not-suc-le-zero h)
below_at n (x ∷ l) zero a h = ltb-true x n (and_out (ltb x n) (all (λ v. ltb v n) l) a).0
below_at n (x ∷ l) (suc i) a h = below_at n l i (and_out (ltb x n) (all (λ v. ltb v n) l) a).1 (le_of_suc-le-suc h)

pub all_more : (f g : ℕ → Bool) (l : List ℕ) → ((v : ℕ) → f v ≡ true → g v ≡ true) → all f l ≡ true → all g l ≡ true
unfolding all
all_more f g [] h a = refl
all_more f g (x ∷ l) h a = let (p, q) = and_out (f x) (all f l) a in rw (h x p, all_more f g l h q)

-- ---- bytes
-- a slice of bytes has bytes
pub bytes_known : (s : List ℕ) → ((i : ℕ) → get_or s i 0 < 256) → IsBytes s
unfolding all
bytes_known [] h = refl
bytes_known (x ∷ s) h = rw (lt-ltb x 256 (h 0)) (bytes_known s (λ i. h (suc i)))

-- and so has a part of them
pub bytes_part : (a n : ℕ) (s : List ℕ) → IsBytes s → IsBytes (take n (drop a s))
bytes_part a n s h =
    let behind : IsBytes (drop a s) = all_right (λ b. ltb b 256) (take a s) (drop a s) (rw (take-append-drop a s) h) in
    all_left (λ b. ltb b 256) (take n (drop a s)) (drop n (drop a s)) (rw (take-append-drop n (drop a s)) behind)

-- ---- the six bytes before a payload, and the payload
pub record IsWhole (kind : ℕ) (s : List ℕ) (p : Part) : Type 0 where
  pub six : 6 ≤ length s
  pub kinds : kind_field s ≡ kind
  pub room : 6 + length_field s ≤ length s
  pub same : record { payload = take (length_field s) (drop 6 s); rest = drop (6 + length_field s) s } ≡ p

pub part_out : (kind : ℕ) (s : List ℕ) (p : Part) → part kind s ≡ gives p → IsWhole kind s p
unfolding part
part_out kind s p e =
    let here : Part = record { payload = take (length_field s) (drop 6 s); rest = drop (6 + length_field s) s } in
    let (a, e2) = asks_out 1 (leb 6 (length s) && eqb (kind_field s) kind) (asks 2 (leb (6 + length_field s) (length s)) >> gives here) p e in
    let (b, e3) = asks_out 2 (leb (6 + length_field s) (length s)) (gives here) p e2 in
    let (a1, a2) = and_out (leb 6 (length s)) (eqb (kind_field s) kind) a in
    record { six = leb-true 6 (length s) a1; kinds = eqb-true (kind_field s) kind a2; room = leb-true (6 + length_field s) (length s) b; same = give_inj e3 }

-- ---- bytes behind
abbrev pub longer : Part → List ℕ → Part
longer p g = record { payload = p.payload; rest = p.rest ++ g }

length_field-append : (s g : List ℕ) → 4 ≤ length s → length_field (s ++ g) ≡ length_field s
unfolding length_field
length_field-append s g h = rw (get_or-append s g 0 0 (omega arith), get_or-append s g 0 1 (omega arith), get_or-append s g 0 2 (omega arith), get_or-append s g 0 3 (omega arith))

pub part-append : (kind : ℕ) (s g : List ℕ) (p : Part) → part kind s ≡ gives p → part kind (s ++ g) ≡ gives (longer p g)
unfolding part
part-append kind s g p e =
    let w : IsWhole kind s p = part_out kind s p e in
    let l6 : 6 ≤ length s = w.six in
    let lw : 6 + length_field s ≤ length s = w.room in
    let n : length (s ++ g) ≡ length s + length g = length-append s g in
    simp (
      get_or-append s g 0 4 (omega arith),
      get_or-append s g 0 5 (omega arith),
      length_field-append s g (omega arith),
      le-leb 6 (length (s ++ g)) (omega arith),
      eq-eqb (kind_field s) kind w.kinds,
      le-leb (6 + length_field s) (length (s ++ g)) (omega arith),
      drop-append-le 6 s g l6,
      take-append-le (length_field s) (drop 6 s) g (simp length-drop (omega arith)),
      drop-append-le (6 + length_field s) s g lw,
    )
    (ap (λ (q : Part). gives (longer q g)) w.same)

-- ---- a record that was written
length_field-written : (kind : ℕ) (p rest : List ℕ) → length p < 4294967296 → length_field (written kind p ++ rest) ≡ length p
unfolding length_field written
length_field-written kind p rest h = omega arith

pub part-written : (kind : ℕ) (p rest : List ℕ) → length p < 4294967296 → part kind (written kind p ++ rest) ≡ gives (record { payload = p; rest = rest })
unfolding part written
part-written kind p rest h =
    let n : length (p ++ rest) ≡ length p + length rest = length-append p rest in
    let k : kind % 256 + 256 * (kind / 256) ≡ kind = omega arith in
    let six : 6 + length p ≡ suc (suc (suc (suc (suc (suc (length p)))))) = omega arith in
    simp (
      length_field-written kind p rest h,
      k,
      eq-eqb kind kind refl,
      six,
      le-leb 6 (suc (suc (suc (suc (suc (suc (length (p ++ rest)))))))) (omega arith),
      le-leb (suc (suc (suc (suc (suc (suc (length p))))))) (suc (suc (suc (suc (suc (suc (length (p ++ rest)))))))) (omega arith),
      take-append_seam p rest,
      drop-append_seam p rest,
    )

pub written-length : (kind : ℕ) (p : List ℕ) → length (written kind p) ≡ 6 + length p
unfolding written
written-length kind p = omega arith

pub written_bytes : (kind : ℕ) (p : List ℕ) → kind < 65536 → all (λ b. ltb b 256) p ≡ true → all (λ b. ltb b 256) (written kind p) ≡ true
unfolding written all
written_bytes kind p h a =
    rw (
      lt-ltb (length p % 256) 256 (omega arith),
      lt-ltb (length p / 256 % 256) 256 (omega arith),
      lt-ltb (length p / 256 / 256 % 256) 256 (omega arith),
      lt-ltb (length p / 256 / 256 / 256 % 256) 256 (omega arith),
      lt-ltb (kind % 256) 256 (omega arith),
      lt-ltb (kind / 256) 256 (omega arith),
      a,
    )

-- ---- no other bytes are read so
-- four digits to base 256, from their number
digits_back : (a b c d x : ℕ) → a < 256 → b < 256 → c < 256 → d < 256 → a + 256 * b + 65536 * c + 16777216 * d ≡ x
    → (x % 256 ≡ a) × (x / 256 % 256 ≡ b) × (x / 256 / 256 % 256 ≡ c) × (x / 256 / 256 / 256 % 256 ≡ d)
digits_back a b c d x ha hb hc hd e = (omega arith, omega arith, omega arith, omega arith)

-- bytes that hold length and kind are those that are written
encodes : (a b c d e f kind : ℕ) (t : List ℕ) → a < 256 → b < 256 → c < 256 → d < 256 → e < 256 → e + 256 * f ≡ kind
    → a + 256 * b + 65536 * c + 16777216 * d ≤ length t
    → a ∷ b ∷ c ∷ d ∷ e ∷ f ∷ t ≡ written kind (take (a + 256 * b + 65536 * c + 16777216 * d) t) ++ drop (a + 256 * b + 65536 * c + 16777216 * d) t
unfolding written
encodes a b c d e f kind t ha hb hc hd he k w = by (length (take L t)) (length-take-le L t w)
  where
    L : ℕ
    L = a + 256 * b + 65536 * c + 16777216 * d

    by : (x : ℕ) → x ≡ L → a ∷ b ∷ c ∷ d ∷ e ∷ f ∷ t ≡ x % 256 ∷ x / 256 % 256 ∷ x / 256 / 256 % 256 ∷ x / 256 / 256 / 256 % 256 ∷ kind % 256 ∷ kind / 256 ∷ take L t ++ drop L t
    by x q =
        let (pa, pb, pc, pd) = digits_back a b c d x ha hb hc hd (sym q) in
        let pe : kind % 256 ≡ e = omega arith in
        let pf : kind / 256 ≡ f = omega arith in
        rw (pa, pb, pc, pd, pe, pf, take-append-drop L t)

pub part_encodes : (kind : ℕ) (s : List ℕ) (p : Part) → all (λ b. ltb b 256) s ≡ true → part kind s ≡ gives p → s ≡ written kind p.payload ++ p.rest
unfolding part length_field all
part_encodes kind [] p h x = absurd (never x)
part_encodes kind (a ∷ []) p h x = absurd (never x)
part_encodes kind (a ∷ b ∷ []) p h x = absurd (never x)
part_encodes kind (a ∷ b ∷ c ∷ []) p h x = absurd (never x)
part_encodes kind (a ∷ b ∷ c ∷ d ∷ []) p h x = absurd (never x)
part_encodes kind (a ∷ b ∷ c ∷ d ∷ e ∷ []) p h x = absurd (never x)
part_encodes kind (a ∷ b ∷ c ∷ d ∷ e ∷ f ∷ t) p h x =
    let w : IsWhole kind (a ∷ b ∷ c ∷ d ∷ e ∷ f ∷ t) p = part_out kind (a ∷ b ∷ c ∷ d ∷ e ∷ f ∷ t) p x in
    let (ha, h1) = and_out (ltb a 256) (all (λ b. ltb b 256) (b ∷ c ∷ d ∷ e ∷ f ∷ t)) h in
    let (hb, h2) = and_out (ltb b 256) (all (λ b. ltb b 256) (c ∷ d ∷ e ∷ f ∷ t)) h1 in
    let (hc, h3) = and_out (ltb c 256) (all (λ b. ltb b 256) (d ∷ e ∷ f ∷ t)) h2 in
    let (hd, h4) = and_out (ltb d 256) (all (λ b. ltb b 256) (e ∷ f ∷ t)) h3 in
    let (he, h5) = and_out (ltb e 256) (all (λ b. ltb b 256) (f ∷ t)) h4 in
    let L : ℕ = a + 256 * b + 65536 * c + 16777216 * d in
    let room : L ≤ length t = omega (arith, w.room) in
    let six : 6 + L ≡ suc (suc (suc (suc (suc (suc L))))) = omega arith in
    encodes a b c d e f kind t (ltb-true a 256 ha) (ltb-true b 256 hb) (ltb-true c 256 hc) (ltb-true d 256 hd) (ltb-true e 256 he) w.kinds room
    ∙ ap (λ (k : ℕ). written kind (take L t) ++ drop k (a ∷ b ∷ c ∷ d ∷ e ∷ f ∷ t)) (sym six)
    ∙ ap (λ (q : Part). written kind q.payload ++ q.rest) w.same

-- ---- a record with the questions of its kind
yes_out : {A : Type 0} (m : Answer Bool) (k : Answer A) (a : A) → (m >> k) ≡ gives a → (all_yes m ≡ true) × (k ≡ gives a)
yes_out (gives b) k a e = (refl, e)
yes_out (refuses r) k a e = absurd (never e)

yes_in : {A : Type 0} (m : Answer Bool) (k : Answer A) → all_yes m ≡ true → (m >> k) ≡ k
yes_in (gives b) k e = refl
yes_in (refuses r) k e = absurd (false≢true e)

-- the questions one after the other
pub asks-then : (q : ℕ) (c : Bool) (m : Answer Bool) → all_yes (asks q c >> m) ≡ true → (c ≡ true) × (all_yes m ≡ true)
asks-then q true m e = (refl, e)
asks-then q false m e = absurd (false≢true e)

pub asks_last : (q : ℕ) (c : Bool) → all_yes (asks q c) ≡ true → c ≡ true
asks_last q true e = refl
asks_last q false e = absurd (false≢true e)

-- so many bytes for each node
pub length_out : (width n : ℕ) (p : List ℕ) → all_yes (each_asks width n p) ≡ true → length p ≡ width * n
unfolding each_asks
length_out width n p e = eqb-true (length p) (width * n) (asks_last 3 (eqb (length p) (width * n)) e)

pub length_in : (width n : ℕ) (p : List ℕ) → length p ≡ width * n → all_yes (each_asks width n p) ≡ true
unfolding each_asks
length_in width n p e = rw (eq-eqb (length p) (width * n) e)

module _ (kind : ℕ) (questions : List ℕ → Answer Bool) where
  pub checked_passed : (s : List ℕ) (p : Part) → checked kind questions s ≡ gives p → (part kind s ≡ gives p) × (all_yes (questions p.payload) ≡ true)
  unfolding checked
  checked_passed s p e =
      let (q, a, f) = bind_out (part kind s) (λ p. questions p.payload >> gives p) p e in
      let (y, g) = yes_out (questions q.payload) (gives q) p f in
      let h : q ≡ p = give_inj g in
      (a ∙ g, rw h at y)

  pub checked_given : (s : List ℕ) (p : Part) → part kind s ≡ gives p → all_yes (questions p.payload) ≡ true → checked kind questions s ≡ gives p
  unfolding checked
  checked_given s p e y = rw e (yes_in (questions p.payload) (gives p) y)

  pub checked-append : (s g : List ℕ) (p : Part) → checked kind questions s ≡ gives p → checked kind questions (s ++ g) ≡ gives (longer p g)
  checked-append s g p e =
      let (a, y) = checked_passed s p e in
      checked_given (s ++ g) (longer p g) (part-append kind s g p a) y

  pub checked-written : (p rest : List ℕ) → length p < 4294967296 → all_yes (questions p) ≡ true → checked kind questions (written kind p ++ rest) ≡ gives (record { payload = p; rest = rest })
  checked-written p rest h y = checked_given (written kind p ++ rest) (record { payload = p; rest = rest }) (part-written kind p rest h) y

  -- one record of bytes below 256, and the bytes behind it
  pub record_bytes : (s : List ℕ) (p : Part) → all (λ b. ltb b 256) s ≡ true → checked kind questions s ≡ gives p
      → (s ≡ written kind p.payload ++ p.rest) × (all (λ b. ltb b 256) p.rest ≡ true)
  record_bytes s p h e =
      let q : s ≡ written kind p.payload ++ p.rest = part_encodes kind s p h (checked_passed s p e).0 in
      (q, all_right (λ b. ltb b 256) (written kind p.payload) p.rest (sym (ap (all (λ b. ltb b 256)) q) ∙ h))
