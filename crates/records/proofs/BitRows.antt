-- Rows of bits in bytes: a row's bytes by their places, and a column changed.
use Prim.Native.Nat.{ℕ, zero, suc, ◌+◌, ◌*◌, ◌/◌, ◌%◌, ◌≤◌, ◌<◌}
use mathlib.Core.Path.{◌≡◌, refl, sym, ap, ap₂, ◌∙◌}
use mathlib.Core.Bool.{Bool, true, false, cond, ◌&&◌}
use mathlib.Core.Logic.{◌⊎◌, inl, inr}
use mathlib.Core.List.{List, [], ◌∷◌, ◌++◌}
use native.Mathlib.Omega.{arith}
use native.Mathlib.Nat.{mul-le-mul}
use native.Mathlib.Decide.{ℕ_discrete}
use borrow.Author.Tests.{eq-eqb, ne_eqb, ltb-true, lt-ltb}
use lib.Dec.{eqb, ltb}
use lib.ListN.{length, get_or, take, drop, length-append, length-drop, length-replicate, get_or-append, take-append-drop}
use lib.Seq.{length-take-le, get_or-append-add, get_or-take, get_or-drop}
use Rattle.nodes.specs.Bit.{bit, digits}
use Rattle.nodes.specs.Lists.{list_of, zeros}
use Rattle.nodes.proofs.Logic.{and_none, lt_or_ge}
use Rattle.nodes.proofs.Bit.{bit_zero}
use Rattle.nodes.proofs.Digits.{digits-lt, bit-digits, digits_is}
use Rattle.nodes.proofs.Lists.{length-list_of, get_or-list_of, is_list_of, zeros_at}
use Rattle.records.specs.BitRows.{byte_bits, row_width, rows, row_byte, bit_rows, with_digit, with_column}

-- ---- rows of bytes
-- a row ends where or before a later one starts
pub row_end : (w j m : ℕ) → j < m → w * j + w ≤ w * m
row_end w j m h = omega (arith, mul-le-mul {n₁ = w} {m₁ = suc j} {n₂ = w} {m₂ = m} (omega arith) (omega arith))

pub row_within : (w j k m : ℕ) → j < m → k < w → w * j + k < w * m
row_within w j k m h l = omega (arith, row_end w j m h)

-- a byte's place tells its row and its place in the row
pub same_place : (w j k j' k' : ℕ) → k < w → k' < w → w * j + k ≡ w * j' + k' → (j ≡ j') × (k ≡ k')
same_place w j k j' k' h h' e = by (lt_or_ge j j') (lt_or_ge j' j)
  where
    apart : (a b c d : ℕ) → c < w → a < b → w * a + c ≡ w * b + d → ⊥
    apart a b c d l m q = omega (arith, row_end w a b m)

    by : (j < j') ⊎ (j' ≤ j) → (j' < j) ⊎ (j ≤ j') → (j ≡ j') × (k ≡ k')
    by (inl a) (inl b) = absurd (apart j j' k k' h a e)
    by (inl a) (inr b) = absurd (apart j j' k k' h a e)
    by (inr a) (inl b) = absurd (apart j' j k' k h' b (sym e))
    by (inr a) (inr b) = let same : j ≡ j' = omega arith in (same, omega (arith, ap (λ (x : ℕ). w * x) same))

pub rows-length : (w m : ℕ) (f : ℕ → ℕ → ℕ) → length (rows w m f) ≡ w * m
unfolding rows
rows-length w zero f = omega arith
rows-length w (suc m) f = omega (arith, length-append (list_of w (f 0)) (rows w m (λ j. f (suc j))), length-list_of w (f 0), rows-length w m (λ j. f (suc j)))

pub rows_at : (w m : ℕ) (f : ℕ → ℕ → ℕ) (j k : ℕ) → j < m → k < w → get_or (rows w m f) (w * j + k) 0 ≡ f j k
unfolding rows
rows_at w zero f j k h l = absurd (omega arith)
rows_at w (suc m) f zero k h l =
    let first : w * 0 + k ≡ k = omega arith in
    ap (λ (a : ℕ). get_or (list_of w (f 0) ++ rows w m (λ j. f (suc j))) a 0) first
    ∙ get_or-append (list_of w (f 0)) (rows w m (λ j. f (suc j))) 0 k (omega (arith, length-list_of w (f 0)))
    ∙ get_or-list_of w (f 0) k l
rows_at w (suc m) f (suc j) k h l =
    let later : w * suc j + k ≡ length (list_of w (f 0)) + (w * j + k) = omega (arith, length-list_of w (f 0)) in
    ap (λ (a : ℕ). get_or (list_of w (f 0) ++ rows w m (λ j. f (suc j))) a 0) later
    ∙ get_or-append-add (list_of w (f 0)) (rows w m (λ j. f (suc j))) (w * j + k) 0
    ∙ rows_at w m (λ j. f (suc j)) j k (omega arith) l

-- a list is the rows of the bytes that it has
pub rows_are : (w m : ℕ) (f : ℕ → ℕ → ℕ) (l : List ℕ) → length l ≡ w * m → ((j k : ℕ) → j < m → k < w → get_or l (w * j + k) 0 ≡ f j k) → l ≡ rows w m f
unfolding rows
rows_are w zero f [] e h = refl
rows_are w zero f (x ∷ l) e h = absurd (omega arith)
rows_are w (suc m) f l e h =
    sym (take-append-drop w l)
    ∙ ap₂ ◌++◌
    (is_list_of (take w l) w (f 0) (length-take-le w l (omega arith)) (λ k b. get_or-take w l k 0 b ∙ (let first : k ≡ w * 0 + k = omega arith in ap (λ (a : ℕ). get_or l a 0) first) ∙ h 0 k (omega arith) b))
    (rows_are w m (λ j. f (suc j)) (drop w l) (omega (arith, length-drop w l))
    (λ j k a b. get_or-drop w l (w * j + k) 0 ∙ (let later : w + (w * j + k) ≡ w * suc j + k = omega arith in ap (λ (a : ℕ). get_or l a 0) later) ∙ h (suc j) k (omega arith) b))

-- two lists of as many bytes are one where each byte is
pub rows_same : (w m : ℕ) (l g : List ℕ) → length l ≡ w * m → length g ≡ w * m → ((k : ℕ) → get_or l k 0 ≡ get_or g k 0) → l ≡ g
rows_same w m l g a b h = rows_are w m (λ j k. get_or g (w * j + k) 0) l a (λ j k c d. h (w * j + k)) ∙ sym (rows_are w m (λ j k. get_or g (w * j + k) 0) g b (λ j k c d. refl))

pub rows_ext : (w m : ℕ) (f g : ℕ → ℕ → ℕ) → ((j k : ℕ) → j < m → k < w → f j k ≡ g j k) → rows w m f ≡ rows w m g
rows_ext w m f g h = rows_are w m g (rows w m f) (rows-length w m f) (λ j k a b. rows_at w m f j k a b ∙ h j k a b)

-- ---- digits
digits_ext : (n : ℕ) (f g : ℕ → Bool) → ((k : ℕ) → k < n → f k ≡ g k) → digits n f ≡ digits n g
digits_ext n f g h = digits_is n (digits n f) g (digits-lt n f) (λ k l. bit-digits n f k l ∙ h k l)

-- ---- rows of bits
pub bit_rows-length : (n : ℕ) (x : ℕ → ℕ → Bool) → length (bit_rows n x) ≡ row_width n * n
unfolding bit_rows
bit_rows-length n x = rows-length (row_width n) n (λ j. row_byte n (x j))

-- only the first n bits of the first n rows count
pub bit_rows_ext : (n : ℕ) (x y : ℕ → ℕ → Bool) → ((j i : ℕ) → j < n → i < n → x j i ≡ y j i) → bit_rows n x ≡ bit_rows n y
unfolding bit_rows
bit_rows_ext n x y h = rows_ext (row_width n) n _ _ (λ j k a b. digits_ext byte_bits _ _ (λ d l. by j (byte_bits * k + d) a (ltb (byte_bits * k + d) n) refl))
  where
    by : (j v : ℕ) → j < n → (c : Bool) → ltb v n ≡ c → c && x j v ≡ c && y j v
    by j v a true e = h j v a (ltb-true v n e)
    by j v a false e = refl

-- no bit is set
pub bit_rows_none : (n : ℕ) → bit_rows n (λ j i. false) ≡ zeros (row_width n * n)
unfolding bit_rows
bit_rows_none n = sym (rows_are (row_width n) n _ (zeros (row_width n * n)) (length-replicate (row_width n * n) 0) (λ j k a b. zeros_at (row_width n * n) (row_width n * j + k) ∙ digits_is byte_bits 0 _ (omega arith) (λ d l. bit_zero d ∙ sym (and_none (ltb (byte_bits * k + d) n)))))

-- ---- a column
pub column-length : (n i : ℕ) (x : ℕ → Bool) (l : List ℕ) → length (with_column n i x l) ≡ row_width n * n
unfolding with_column
column-length n i x l = rows-length (row_width n) n _

abbrev pub in_column : (i k : ℕ) (b : Bool) → ℕ → ℕ
in_column i k b old = cond (eqb k (i / byte_bits)) (with_digit (i % byte_bits) b old) old

pub column_at : (n i : ℕ) (x : ℕ → Bool) (l : List ℕ) (j k : ℕ) → j < n → k < row_width n → get_or (with_column n i x l) (row_width n * j + k) 0 ≡ in_column i k (x j) (get_or l (row_width n * j + k) 0)
unfolding with_column
column_at n i x l j k a b = rows_at (row_width n) n _ j k a b

-- a list is that with a column changed where each of its bytes is
pub column_is : (n i : ℕ) (x : ℕ → Bool) (l m : List ℕ) → length m ≡ row_width n * n
    → ((j k : ℕ) → j < n → k < row_width n → get_or m (row_width n * j + k) 0 ≡ in_column i k (x j) (get_or l (row_width n * j + k) 0)) → m ≡ with_column n i x l
unfolding with_column
column_is n i x l m e h = rows_are (row_width n) n _ m e h

-- only the first n rows count
pub column_ext : (n i : ℕ) (x y : ℕ → Bool) (l : List ℕ) → ((j : ℕ) → j < n → x j ≡ y j) → with_column n i x l ≡ with_column n i y l
column_ext n i x y l h = column_is n i y l _ (column-length n i x l) (λ j k a b. column_at n i x l j k a b ∙ ap (λ (c : Bool). in_column i k c (get_or l (row_width n * j + k) 0)) (h j a))

-- a digit made twice, and a column, is made once
pub digit_twice : (d : ℕ) (p q : Bool) (old : ℕ) → with_digit d p (with_digit d q old) ≡ with_digit d p old
digit_twice d p q old = digits_ext byte_bits _ _ (λ e l. ap (cond (eqb e d) p) (bit-digits byte_bits _ e l) ∙ over (eqb e d) p q (bit old e))
  where
    over : (c p q r : Bool) → cond c p (cond c q r) ≡ cond c p r
    over true p q r = refl
    over false p q r = refl

pub column_twice : (n i : ℕ) (x y : ℕ → Bool) (l : List ℕ) → with_column n i x (with_column n i y l) ≡ with_column n i x l
column_twice n i x y l = column_is n i x l _ (column-length n i x _) (λ j k a b. column_at n i x _ j k a b ∙ ap (in_column i k (x j)) (column_at n i y l j k a b) ∙ by j k (eqb k (i / byte_bits)))
  where
    by : (j k : ℕ) (c : Bool) → let old = get_or l (row_width n * j + k) 0 in
        cond c (with_digit (i % byte_bits) (x j) (cond c (with_digit (i % byte_bits) (y j) old) old)) (cond c (with_digit (i % byte_bits) (y j) old) old) ≡ cond c (with_digit (i % byte_bits) (x j) old) old
    by j k true = digit_twice (i % byte_bits) (x j) (y j) (get_or l (row_width n * j + k) 0)
    by j k false = refl

-- of rows of bits: the column follows, all else keeps
pub column_rows : (n i : ℕ) (z : ℕ → Bool) (y : ℕ → ℕ → Bool) → i < n → with_column n i z (bit_rows n y) ≡ bit_rows n (λ j v. cond (eqb v i) (z j) (y j v))
unfolding bit_rows
column_rows n i z y h = sym (column_is n i z _ _ (rows-length (row_width n) n _) (λ j k a b. rows_at (row_width n) n _ j k a b ∙ by j k (ℕ_discrete k (i / byte_bits)) ∙ ap (in_column i k (z j)) (sym (rows_at (row_width n) n _ j k a b))))
  where
    here : (j k d : ℕ) → d < byte_bits → k ≡ i / byte_bits → Dec (d ≡ i % byte_bits)
        → ltb (byte_bits * k + d) n && cond (eqb (byte_bits * k + d) i) (z j) (y j (byte_bits * k + d)) ≡ cond (eqb d (i % byte_bits)) (z j) (ltb (byte_bits * k + d) n && y j (byte_bits * k + d))
    here j k d l e (yes p) = rw (eq-eqb d (i % byte_bits) p, eq-eqb (byte_bits * k + d) i (omega arith), lt-ltb (byte_bits * k + d) n (omega arith))
    here j k d l e (no f) = rw (ne_eqb d (i % byte_bits) f, ne_eqb (byte_bits * k + d) i (λ q. f (omega arith)))

    by : (j k : ℕ) → Dec (k ≡ i / byte_bits) → row_byte n (λ v. cond (eqb v i) (z j) (y j v)) k ≡ in_column i k (z j) (row_byte n (y j) k)
    by j k (yes e) = rw (eq-eqb k (i / byte_bits) e) (digits_ext byte_bits _ _ (λ d l. here j k d l e (ℕ_discrete d (i % byte_bits)) ∙ sym (ap (cond (eqb d (i % byte_bits)) (z j)) (bit-digits byte_bits _ d l))))
    by j k (no f) = rw (ne_eqb k (i / byte_bits) f) (digits_ext byte_bits _ _ (λ d l. ap (λ (c : Bool). ltb (byte_bits * k + d) n && cond c (z j) (y j (byte_bits * k + d))) (ne_eqb (byte_bits * k + d) i (λ q. f (omega arith)))))
