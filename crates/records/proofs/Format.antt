-- The laws of formats: what is written reads back, nothing else is read, and bytes more may follow. Each holds of a
-- format if it holds of its parts.
use Prim.Native.Nat.{ℕ, ◌+◌, ◌≤◌, ◌<◌}
use native.Mathlib.Omega.{arith}
use borrow.Author.Tests.{eq-eqb, ne_eqb, eqb-true, leb-true, le-leb}
use mathlib.Core.Path.{◌≡◌, refl, sym, ap, ◌∙◌, subst}
use mathlib.Core.Bool.{Bool, true, false, cond, not, ◌&&◌, false≢true}
use mathlib.Core.Logic.{◌↔◌}
use mathlib.Core.Option.{Option, none, some}
use mathlib.Core.List.{List, [], ◌++◌, append_assoc}
use lib.Dec.{ltb, leb, eqb}
use lib.ListN.{length, length-append, get_or-append}
use Rattle.nodes.proofs.Logic.{and_out, and_none}
use Rattle.nodes.specs.Lists.{all}
use Rattle.answers.specs.Answer.{Refusal, Answer, gives, refuses, refusal, asks, ◌>>=◌, ◌>>◌}
use Rattle.answers.proofs.Answer.{give_inj, never, bind_out}
use Rattle.records.specs.Records.{carries, Part, all_yes, part, checked, head_of, written, length_field, kind_field, head_bytes}
use Rattle.records.specs.Format.{Front, front, Format, PayloadFormat, plain, record_of, decode_then, ◌then◌, some_of, optional_if, choice}
use Rattle.records.specs.Encoding.{IsBytes}
use Rattle.records.proofs.Records.{all_left, all_right, checked_passed, checked-append, checked-written, record_bytes}

-- what is read is valid
pub record IsSound {A : Type 0} (f : Format A) : Type 0 where
  pub valid : (s : List ℕ) (a : A) (t : List ℕ) → f.decode s ≡ gives (front a t) → f.valid a ≡ true

-- what reading a value from bytes and leaving t says of them
pub record IsDecoded {A : Type 0} (f : Format A) (s : List ℕ) (a : A) (t : List ℕ) : Type 0 where
  pub same : s ≡ f.encode a ++ t
  pub follows : f.may_follow a t ≡ true
  pub bytes : IsBytes t

-- what is written reads back, and of bytes nothing else is read
pub record IsExact {A : Type 0} (f : Format A) : Type 0 where
  pub sound : IsSound f
  pub decodes : (a : A) (t : List ℕ) → f.valid a ≡ true → f.may_follow a t ≡ true → f.decode (f.encode a ++ t) ≡ gives (front a t)
  pub encodes : (s : List ℕ) (a : A) (t : List ℕ) → IsBytes s → f.decode s ≡ gives (front a t) → IsDecoded f s a t

-- read the same with bytes behind it
pub record Appends {A : Type 0} (f : Format A) : Type 0 where
  pub appends : (s : List ℕ) (a : A) (t u : List ℕ) → f.decode s ≡ gives (front a t) → f.may_follow a (t ++ u) ≡ true → f.decode (s ++ u) ≡ gives (front a (t ++ u))

-- anything may follow a value of this format
pub record IsClosed {A : Type 0} (f : Format A) : Type 0 where
  pub closed : (a : A) (t : List ℕ) → f.may_follow a t ≡ true

-- a fact of the one value is a fact of the other
front_inj : {A : Type 0} (C : A → List ℕ → Type 0) (a b : A) (t u : List ℕ) → gives (front a t) ≡ gives (front b u) → C a t → C b u
front_inj {A = A} C a b t u e k = subst (λ (z : Front A). C z.value z.rest) (give_inj e) k

-- ---- of every exact format
module _ {A : Type 0} (f : Format A) (x : IsExact f) where
  -- bytes are read as a value just where they are its bytes, it is valid, and what is left may follow it
  pub exact_iff : (s : List ℕ) (a : A) (t : List ℕ) → IsBytes s
      → (f.decode s ≡ gives (front a t) ↔ (s ≡ f.encode a ++ t) × (f.valid a ≡ true) × (f.may_follow a t ≡ true))
  exact_iff s a t h = (
    (λ e. let r = x.encodes s a t h e in (r.same, x.sound.valid s a t e, r.follows)),
    λ r. ap (λ (z : List ℕ). f.decode z) r.0 ∙ x.decodes a t r.1 r.2,
  )

  -- with bytes behind it, from bytes; an optional part before others is covered too
  pub exact_append : (s : List ℕ) (a : A) (t u : List ℕ) → IsBytes s → f.decode s ≡ gives (front a t) → f.may_follow a (t ++ u) ≡ true → f.decode (s ++ u) ≡ gives (front a (t ++ u))
  exact_append s a t u h e w =
      let r = x.encodes s a t h e in
      ap (λ (z : List ℕ). f.decode z) (ap (λ (z : List ℕ). z ++ u) r.same ∙ append_assoc (f.encode a) t u) ∙ x.decodes a (t ++ u) (x.sound.valid s a t e) w

  -- one file has one value
  pub encode_inj : (a b : A) → f.valid a ≡ true → f.valid b ≡ true → f.may_follow a [] ≡ true → f.may_follow b [] ≡ true → f.encode a ≡ f.encode b → a ≡ b
  encode_inj a b v w p q e =
      ap (λ (z : Front A). z.value) (give_inj (sym (x.decodes a [] v p) ∙ ap (λ (z : List ℕ). f.decode (z ++ [])) e ∙ x.decodes b [] w q))

-- ---- one record
pub record IsPayloadExact {A : Type 0} (p : PayloadFormat A) : Type 0 where
  pub valid : (l : List ℕ) → all_yes (p.questions l) ≡ true → p.valid (p.value l) ≡ true
  pub into : (a : A) → p.valid a ≡ true → (all_yes (p.questions (p.encode a)) ≡ true) × (p.value (p.encode a) ≡ a) × (length (p.encode a) < 4294967296)
  pub out : (l : List ℕ) → IsBytes l → all_yes (p.questions l) ≡ true → p.encode (p.value l) ≡ l

pub payload_bytes : (kind : ℕ) (p t : List ℕ) → IsBytes (written kind p ++ t) → IsBytes p
unfolding written
payload_bytes kind p t h = all_right (λ b. ltb b 256) (head_of (length p) kind) p (all_left (λ b. ltb b 256) (written kind p) t h)

module _ {A : Type 0} (kind : ℕ) (p : PayloadFormat A) where
  -- the record that was read
  record_out : (s : List ℕ) (a : A) (t : List ℕ) → (record_of kind p).decode s ≡ gives (front a t) → (r : Part) × (checked kind p.questions s ≡ gives r) × (gives (front (p.value r.payload) r.rest) ≡ gives (front a t))
  record_out s a t e = bind_out (checked kind p.questions s) (λ r. gives (front (p.value r.payload) r.rest)) (front a t) e

  pub record_sound : ((l : List ℕ) → all_yes (p.questions l) ≡ true → p.valid (p.value l) ≡ true) → IsSound (record_of kind p)
  record_sound h = record {
    valid = λ s a t e.
        let (r, c, g) = record_out s a t e in
        front_inj (λ a t. p.valid a ≡ true) (p.value r.payload) a r.rest t g (h r.payload (checked_passed kind p.questions s r c).1);
  }

  pub record_exact : IsPayloadExact p → IsExact (record_of kind p)
  record_exact x = record {
    sound = record_sound x.valid;
    decodes = λ a t v w.
        let (z, q, l) = x.into a v in
        rw (checked-written kind p.questions (p.encode a) t l z, q);
    encodes = λ s a t h e.
        let (r, c, g) = record_out s a t e in
        let (q, hb) = record_bytes kind p.questions s r h c in
        let b = x.out r.payload (payload_bytes kind r.payload r.rest (sym (ap (all (λ b. ltb b 256)) q) ∙ h)) (checked_passed kind p.questions s r c).1 in
        front_inj (IsDecoded (record_of kind p) s) (p.value r.payload) a r.rest t g (record { same = q ∙ ap (λ (z : List ℕ). written kind z ++ r.rest) (sym b); follows = refl; bytes = hb });
  }

  pub record_appends : Appends (record_of kind p)
  record_appends = record {
    appends = λ s a t u e w.
        let (r, c, g) = record_out s a t e in
        let q : front (p.value r.payload) r.rest ≡ front a t = give_inj g in
        rw (checked-append kind p.questions s u r c) (ap (λ (z : Front A). gives (front z.value (z.rest ++ u))) q);
  }

  pub record_closed : IsClosed (record_of kind p)
  record_closed = record { closed = λ a t. refl }

  -- another kind stands there, or none: question 1
  pub record_missing : (s : List ℕ) → carries kind s ≡ false → (record_of kind p).decode s ≡ refuses (refusal 1)
  unfolding checked part
  record_missing s e = rw e refl

  pub record_carries : (s : List ℕ) (r : Front A) → (record_of kind p).decode s ≡ gives r → carries kind s ≡ true
  record_carries s r e = by (carries kind s) refl
    where
      by : (b : Bool) → carries kind s ≡ b → carries kind s ≡ true
      by true h = h
      by false h = absurd (never (sym (record_missing s h) ∙ e))

-- a payload that stands for itself, where its questions bound its length
pub plain_exact : (questions : List ℕ → Answer Bool) → ((l : List ℕ) → all_yes (questions l) ≡ true → length l < 4294967296) → IsPayloadExact (plain questions)
plain_exact questions few = record {
  valid = λ l z. z;
  into = λ a z. (z, refl, few a z);
  out = λ l h z. refl;
}

-- ---- one after the other
module _ {A B : Type 0} (f : Format A) (g : A → Format B) where
  then_out : (s : List ℕ) (c : A × B) (t : List ℕ) → (f then g).decode s ≡ gives (front c t)
      → (p : Front A) × (f.decode s ≡ gives p) × (q : Front B) × ((g p.value).decode p.rest ≡ gives q) × (gives (front {A = A × B} (p.value, q.value) q.rest) ≡ gives (front c t))
  unfolding decode_then
  then_out s c t e =
      let (p, p1, e1) = bind_out (f.decode s) (λ p. (g p.value).decode p.rest >>= λ q. gives (front {A = A × B} (p.value, q.value) q.rest)) (front {A = A × B} c t) e in
      let (q, q1, e2) = bind_out ((g p.value).decode p.rest) (λ q. gives (front {A = A × B} (p.value, q.value) q.rest)) (front {A = A × B} c t) e1 in
      (p, p1, q, q1, e2)

  pub then_sound : IsSound f → ((a : A) → f.valid a ≡ true → IsSound (g a)) → IsSound (f then g)
  then_sound x y = record {
    valid = λ s c t e.
        let (p, p1, q, q1, e2) = then_out s c t e in
        let v = x.valid s p.value p.rest p1 in
        front_inj (λ c t. (f then g).valid c ≡ true) (p.value, q.value) c q.rest t e2 (rw (v, (y p.value v).valid p.rest q.value q.rest q1));
  }

  pub then_exact : IsExact f → ((a : A) → f.valid a ≡ true → IsExact (g a)) → IsExact (f then g)
  unfolding decode_then
  then_exact x y = record { sound = then_sound x.sound (λ a v. (y a v).sound); decodes = there; encodes = back }
    where
      there : (c : A × B) (t : List ℕ) → (f then g).valid c ≡ true → (f then g).may_follow c t ≡ true → (f then g).decode ((f then g).encode c ++ t) ≡ gives (front c t)
      there (a, b) t v w =
          let (v1, v2) = and_out (f.valid a) ((g a).valid b) v in
          let (w1, w2) = and_out (f.may_follow a ((g a).encode b ++ t)) ((g a).may_follow b t) w in
          rw (append_assoc (f.encode a) ((g a).encode b) t, x.decodes a ((g a).encode b ++ t) v1 w1, (y a v1).decodes b t v2 w2)

      both : (s : List ℕ) (a : A) (b : B) (m u : List ℕ) → IsDecoded f s a m → IsDecoded (g a) m b u → IsDecoded (f then g) s (a, b) u
      both s a b m u r1 r2 = record {
        same = r1.same ∙ ap (λ (z : List ℕ). f.encode a ++ z) r2.same ∙ sym (append_assoc (f.encode a) ((g a).encode b) u);
        follows = rw (← r2.same, r1.follows, r2.follows);
        bytes = r2.bytes;
      }

      back : (s : List ℕ) (c : A × B) (t : List ℕ) → IsBytes s → (f then g).decode s ≡ gives (front c t) → IsDecoded (f then g) s c t
      back s c t h e =
          let (p, p1, q, q1, e2) = then_out s c t e in
          let r1 : IsDecoded f s p.value p.rest = x.encodes s p.value p.rest h p1 in
          let r2 : IsDecoded (g p.value) p.rest q.value q.rest = (y p.value (x.sound.valid s p.value p.rest p1)).encodes p.rest q.value q.rest r1.bytes q1 in
          front_inj (IsDecoded (f then g) s) (p.value, q.value) c q.rest t e2 (both s p.value q.value p.rest q.rest r1 r2)

  pub then_closed : IsClosed f → ((a : A) → IsClosed (g a)) → IsClosed (f then g)
  then_closed k l = record { closed = λ c t. rw (k.closed c.0 ((g c.0).encode c.1 ++ t)) ((l c.0).closed c.1 t) }

  pub then_appends : Appends f → IsClosed f → ((a : A) → Appends (g a)) → Appends (f then g)
  unfolding decode_then
  then_appends x k y = record {
    appends = λ s c t u e w.
        let (p, p1, q, q1, e2) = then_out s c t e in
        let m : front {A = A × B} (p.value, q.value) q.rest ≡ front c t = give_inj e2 in
        let (w1, w2) = and_out (f.may_follow p.value ((g p.value).encode q.value ++ (q.rest ++ u))) ((g p.value).may_follow q.value (q.rest ++ u)) (ap (λ (z : Front (A × B)). (f then g).may_follow z.value (z.rest ++ u)) m ∙ w) in
        rw (x.appends s p.value p.rest u p1 (k.closed p.value (p.rest ++ u)), (y p.value).appends p.rest q.value q.rest u q1 w2) (ap (λ (z : Front (A × B)). gives (front z.value (z.rest ++ u))) m);
  }

-- one record before others
pub record_then_appends : {A B : Type 0} (kind : ℕ) (p : PayloadFormat A) (g : A → Format B) → ((a : A) → Appends (g a)) → Appends (record_of kind p then g)
record_then_appends kind p g y = then_appends (record_of kind p) g (record_appends kind p) (record_closed kind p) y

-- ---- which kind stands first
abbrev pub Starts : {A : Type 0} → ℕ → Format A → Type 0
Starts {A = A} kind f = (a : A) (t : List ℕ) → carries kind (f.encode a ++ t) ≡ true

abbrev pub Differs : {A : Type 0} → ℕ → Format A → Type 0
Differs {A = A} kind f = (a : A) (t : List ℕ) → carries kind (f.encode a ++ t) ≡ false

kind_written : (kind : ℕ) (p t : List ℕ) → kind_field (written kind p ++ t) ≡ kind
unfolding written
kind_written kind p t = omega arith

six_written : (kind : ℕ) (p t : List ℕ) → leb head_bytes (length (written kind p ++ t)) ≡ true
unfolding written
six_written kind p t = le-leb head_bytes (length (written kind p ++ t)) (omega arith)

pub record_starts : {A : Type 0} (kind : ℕ) (p : PayloadFormat A) → Starts kind (record_of kind p)
record_starts kind p a t = rw (kind_written kind (p.encode a) t, six_written kind (p.encode a) t, eq-eqb kind kind refl)

pub record_differs : {A : Type 0} (other kind : ℕ) (p : PayloadFormat A) → (kind ≡ other → ⊥) → Differs other (record_of kind p)
record_differs other kind p d a t = rw (kind_written kind (p.encode a) t, six_written kind (p.encode a) t, ne_eqb kind other d)

pub then_starts : {A B : Type 0} (kind : ℕ) (f : Format A) (g : A → Format B) → Starts kind f → Starts kind (f then g)
then_starts kind f g x c t = rw (append_assoc (f.encode c.0) ((g c.0).encode c.1) t) (x c.0 ((g c.0).encode c.1 ++ t))

-- a kind that stands there stands there with more bytes behind, and no other does
carries-append : (kind : ℕ) (s u : List ℕ) → carries kind s ≡ true → carries kind (s ++ u) ≡ true
carries-append kind s u e =
    let (a, b) = and_out (leb head_bytes (length s)) (eqb (kind_field s) kind) e in
    let l : head_bytes ≤ length s = leb-true head_bytes (length s) a in
    let n : length (s ++ u) ≡ length s + length u = length-append s u in
    rw (get_or-append s u 0 4 (omega arith), get_or-append s u 0 5 (omega arith), b, le-leb head_bytes (length (s ++ u)) (omega arith))

pub carries_one : (kind other : ℕ) (s : List ℕ) → carries kind s ≡ true → (kind ≡ other → ⊥) → carries other s ≡ false
carries_one kind other s h d =
    let (l, m) = and_out (leb head_bytes (length s)) (eqb (kind_field s) kind) h in
    rw (l, ne_eqb (kind_field s) other (λ z. d (sym (eqb-true (kind_field s) kind m) ∙ z)))

-- ---- an optional format
not_carried : (c : Bool) → not c ≡ true → c ≡ false
not_carried true e = absurd (false≢true e)
not_carried false e = refl

module _ {A : Type 0} (here : Bool) (kind : ℕ) (f : Format A) where
  some_out : (s : List ℕ) (o : Option A) (t : List ℕ) → some_of (f.decode s) ≡ gives (front o t) → (p : Front A) × (f.decode s ≡ gives p) × (gives (front (some p.value) p.rest) ≡ gives (front o t))
  some_out s o t e = bind_out (f.decode s) (λ p. gives (front (some p.value) p.rest)) (front o t) e

  pub optional_sound : IsSound f → IsSound (optional_if here kind f)
  optional_sound x = record { valid = λ s o t e. by s o t (here && carries kind s) refl e }
    where
      by : (s : List ℕ) (o : Option A) (t : List ℕ) (c : Bool) → here && carries kind s ≡ c → cond c (some_of (f.decode s)) (gives (front none s)) ≡ gives (front o t) → (optional_if here kind f).valid o ≡ true
      by s o t false c e = front_inj (λ o t. (optional_if here kind f).valid o ≡ true) none o s t e refl
      by s o t true c e =
          let (p, p1, e1) = some_out s o t e in
          front_inj (λ o t. (optional_if here kind f).valid o ≡ true) (some p.value) o p.rest t e1 (ap (λ (h : Bool). h && f.valid p.value) (and_out here (carries kind s) c).0 ∙ x.valid s p.value p.rest p1)

  pub optional_exact : IsExact f → Starts kind f → IsExact (optional_if here kind f)
  optional_exact x starts = record { sound = optional_sound x.sound; decodes = there; encodes = λ s o t h e. back s o t h (here && carries kind s) refl e }
    where
      there : (o : Option A) (t : List ℕ) → (optional_if here kind f).valid o ≡ true → (optional_if here kind f).may_follow o t ≡ true → (optional_if here kind f).decode ((optional_if here kind f).encode o ++ t) ≡ gives (front o t)
      there none t v w = rw (not_carried (here && carries kind t) w)
      there (some a) t v w = let (h, y) = and_out here (f.valid a) v in rw (h, starts a t, x.decodes a t y w)

      back : (s : List ℕ) (o : Option A) (t : List ℕ) → IsBytes s → (c : Bool) → here && carries kind s ≡ c → cond c (some_of (f.decode s)) (gives (front none s)) ≡ gives (front o t) → IsDecoded (optional_if here kind f) s o t
      back s o t h false c e = front_inj (IsDecoded (optional_if here kind f) s) none o s t e (record { same = refl; follows = rw c; bytes = h })
      back s o t h true c e =
          let (p, p1, e1) = some_out s o t e in
          let r : IsDecoded f s p.value p.rest = x.encodes s p.value p.rest h p1 in
          front_inj (IsDecoded (optional_if here kind f) s) (some p.value) o p.rest t e1 (record { same = r.same; follows = r.follows; bytes = r.bytes })

  pub optional_appends : Appends f → Appends (optional_if here kind f)
  optional_appends x = record { appends = λ s o t u e w. by s o t u w (here && carries kind s) refl e }
    where
      by : (s : List ℕ) (o : Option A) (t u : List ℕ) → (optional_if here kind f).may_follow o (t ++ u) ≡ true → (c : Bool) → here && carries kind s ≡ c → cond c (some_of (f.decode s)) (gives (front none s)) ≡ gives (front o t) → (optional_if here kind f).decode (s ++ u) ≡ gives (front o (t ++ u))
      by s o t u w false c e =
          let m : front none s ≡ front o t = give_inj e in
          let n : not (here && carries kind (s ++ u)) ≡ true = ap (λ (z : Front (Option A)). (optional_if here kind f).may_follow z.value (z.rest ++ u)) m ∙ w in
          rw (not_carried (here && carries kind (s ++ u)) n) (ap (λ (z : Front (Option A)). gives (front z.value (z.rest ++ u))) m)
      by s o t u w true c e =
          let (p, p1, e1) = some_out s o t e in
          let m : front (some p.value) p.rest ≡ front o t = give_inj e1 in
          let (h, k) = and_out here (carries kind s) c in
          rw (h, carries-append kind s u k, x.appends s p.value p.rest u p1 (ap (λ (z : Front (Option A)). (optional_if here kind f).may_follow z.value (z.rest ++ u)) m ∙ w)) (ap (λ (z : Front (Option A)). gives (front z.value (z.rest ++ u))) m)

  -- what does not carry its kind may follow, whether it is there or not
  pub optional_follows : IsClosed f → (o : Option A) (t : List ℕ) → carries kind t ≡ false → (optional_if here kind f).may_follow o t ≡ true
  optional_follows x none t c = rw (c, and_none here) refl
  optional_follows x (some a) t c = x.closed a t

-- ---- two kinds in one place
pub record IsApart {A : Type 0} (second : A → Bool) (f : Format A) (kind : ℕ) (g : Format A) : Type 0 where
  pub starts : Starts kind g
  pub differs : Differs kind f
  pub seconds : (a : A) → g.valid a ≡ true → second a ≡ true
  pub firsts : (a : A) → f.valid a ≡ true → second a ≡ false

module _ {A : Type 0} (second : A → Bool) (f : Format A) (kind : ℕ) (g : Format A) (k : IsApart second f kind g) where
  pub choice_sound : IsSound f → IsSound g → IsSound (choice second f kind g)
  choice_sound x y = record { valid = λ s a t e. by s a t (carries kind s) e }
    where
      by : (s : List ℕ) (a : A) (t : List ℕ) (c : Bool) → cond c (g.decode s) (f.decode s) ≡ gives (front a t) → (choice second f kind g).valid a ≡ true
      by s a t true e = let v = y.valid s a t e in rw (k.seconds a v) v
      by s a t false e = let v = x.valid s a t e in rw (k.firsts a v) v

  pub choice_exact : IsExact f → IsExact g → IsExact (choice second f kind g)
  choice_exact x y = record {
    sound = choice_sound x.sound y.sound;
    decodes = λ a t v w. there a t (second a) v w;
    encodes = λ s a t h e. back s a t h (carries kind s) e;
  }
    where
      there : (a : A) (t : List ℕ) (b : Bool) → cond b (g.valid a) (f.valid a) ≡ true → cond b (g.may_follow a t) (f.may_follow a t) ≡ true → (choice second f kind g).decode (cond b (g.encode a) (f.encode a) ++ t) ≡ gives (front a t)
      there a t true v w = rw (k.starts a t) (y.decodes a t v w)
      there a t false v w = rw (k.differs a t) (x.decodes a t v w)

      back : (s : List ℕ) (a : A) (t : List ℕ) → IsBytes s → (c : Bool) → cond c (g.decode s) (f.decode s) ≡ gives (front a t) → IsDecoded (choice second f kind g) s a t
      back s a t h true e =
          let r : IsDecoded g s a t = y.encodes s a t h e in
          let b : second a ≡ true = k.seconds a (y.sound.valid s a t e) in
          record { same = rw b r.same; follows = rw b r.follows; bytes = r.bytes }
      back s a t h false e =
          let r : IsDecoded f s a t = x.encodes s a t h e in
          let b : second a ≡ false = k.firsts a (x.sound.valid s a t e) in
          record { same = rw b r.same; follows = rw b r.follows; bytes = r.bytes }

pub choice_closed : {A : Type 0} (second : A → Bool) (f : Format A) (kind : ℕ) (g : Format A) → IsClosed f → IsClosed g → IsClosed (choice second f kind g)
choice_closed {A = A} second f kind g x y = record { closed = λ a t. by (second a) a t }
  where
    by : (b : Bool) (a : A) (t : List ℕ) → cond b (g.may_follow a t) (f.may_follow a t) ≡ true
    by true a t = y.closed a t
    by false a t = x.closed a t

-- records of two kinds: what is left is left of the bytes, so the value follows from the kind
module _ {A : Type 0} (second : A → Bool) (first kind : ℕ) (p q : PayloadFormat A) where
  -- neither kind stands there: question 1
  pub choice_neither : (s : List ℕ) → carries first s ≡ false → carries kind s ≡ false → (choice second (record_of first p) kind (record_of kind q)).decode s ≡ refuses (refusal 1)
  choice_neither s a b = rw b (record_missing first p s a)

  pub choice_appends : (first ≡ kind → ⊥) → Appends (choice second (record_of first p) kind (record_of kind q))
  choice_appends d = record { appends = λ s a t u e w. by s a t u (carries kind s) refl e }
    where
      by : (s : List ℕ) (a : A) (t u : List ℕ) (c : Bool) → carries kind s ≡ c → cond c ((record_of kind q).decode s) ((record_of first p).decode s) ≡ gives (front a t)
          → (choice second (record_of first p) kind (record_of kind q)).decode (s ++ u) ≡ gives (front a (t ++ u))
      by s a t u true c e = rw (carries-append kind s u c) ((record_appends kind q).appends s a t u e refl)
      by s a t u false c e =
          rw (carries_one first kind (s ++ u) (carries-append first s u (record_carries first p s (front a t) e)) d) ((record_appends first p).appends s a t u e refl)

-- ---- what a format refuses with
module _ (P : Refusal → Type 0) where
  bind-refuses : {A B : Type 0} (m : Answer A) (k : A → Answer B) (r : Refusal) → (m >>= k) ≡ refuses r → ((q : Refusal) → m ≡ refuses q → P q) → ((a : A) → k a ≡ refuses r → P r) → P r
  bind-refuses (gives a) k r e h g = g a e
  bind-refuses (refuses q) k r e h g = let same : q ≡ r = cc in subst P same (h q refl)

  pub asks-refuses : {A : Type 0} (q : ℕ) (c : Bool) (k : Answer A) (r : Refusal) → (asks q c >> k) ≡ refuses r → P (refusal q) → (k ≡ refuses r → P r) → P r
  asks-refuses q true k r e p h = h e
  asks-refuses q false k r e p h = let same : refusal q ≡ r = cc in subst P same p

  pub record Refuses {A : Type 0} (f : Format A) : Type 0 where
    pub refused : (s : List ℕ) (r : Refusal) → f.decode s ≡ refuses r → P r

  pub record_refuses : {A : Type 0} (kind : ℕ) (p : PayloadFormat A) → P (refusal 1) → P (refusal 2) → ((l : List ℕ) (r : Refusal) → p.questions l ≡ refuses r → P r) → Refuses (record_of kind p)
  unfolding checked part
  record_refuses kind p one two more = record {
    refused = λ s r e. bind-refuses (checked kind p.questions s) _ r e
        (λ q e1. bind-refuses (part kind s) _ q e1
        (λ q e2. asks-refuses 1 (carries kind s) _ q e2 one (λ e3. asks-refuses 2 (leb (head_bytes + length_field s) (length s)) _ q e3 two (λ e4. absurd (never (sym e4)))))
        (λ a e2. questioned (p.questions a.payload) a q e2 (more a.payload)))
        (λ a e1. absurd (never (sym e1)));
  }
    where
      questioned : (m : Answer Bool) (a : Part) (q : Refusal) → (m >> gives a) ≡ refuses q → ((r : Refusal) → m ≡ refuses r → P r) → P q
      questioned (gives b) a q e h = absurd (never (sym e))
      questioned (refuses r) a q e h = let same : r ≡ q = cc in subst P same (h r refl)

  -- what is read first is valid
  pub then_refuses : {A B : Type 0} (f : Format A) (g : A → Format B) → IsSound f → Refuses f → ((a : A) → f.valid a ≡ true → Refuses (g a)) → Refuses (f then g)
  unfolding decode_then
  then_refuses {A = A} {B = B} f g v x y = record { refused = λ s r e. by s r (f.decode s) refl e }
    where
      by : (s : List ℕ) (r : Refusal) (m : Answer (Front A)) → f.decode s ≡ m → (m >>= λ p. (g p.value).decode p.rest >>= λ q. gives (front {A = A × B} (p.value, q.value) q.rest)) ≡ refuses r → P r
      by s r (gives p) h e = bind-refuses ((g p.value).decode p.rest) _ r e ((y p.value (v.valid s p.value p.rest h)).refused p.rest) (λ q e2. absurd (never (sym e2)))
      by s r (refuses q) h e = let same : q ≡ r = cc in subst P same (x.refused s q h)

  pub optional_refuses : {A : Type 0} (here : Bool) (kind : ℕ) (f : Format A) → Refuses f → Refuses (optional_if here kind f)
  optional_refuses here kind f x = record { refused = λ s r e. by s r (here && carries kind s) e }
    where
      by : (s : List ℕ) (r : Refusal) (c : Bool) → cond c (some_of (f.decode s)) (gives (front none s)) ≡ refuses r → P r
      by s r true e = bind-refuses (f.decode s) _ r e (x.refused s) (λ p e1. absurd (never (sym e1)))
      by s r false e = absurd (never (sym e))

  pub choice_refuses : {A : Type 0} (second : A → Bool) (f : Format A) (kind : ℕ) (g : Format A) → Refuses f → Refuses g → Refuses (choice second f kind g)
  choice_refuses second f kind g x y = record { refused = λ s r e. by s r (carries kind s) e }
    where
      by : (s : List ℕ) (r : Refusal) (c : Bool) → cond c (g.decode s) (f.decode s) ≡ refuses r → P r
      by s r true e = y.refused s r e
      by s r false e = x.refused s r e

-- ---- all of it: a format is exact, and refuses with what P allows
pub record IsLawful (P : Refusal → Type 0) {A : Type 0} (f : Format A) : Type 0 where
  pub exact : IsExact f
  pub refusing : Refuses P f

-- of one record: P allows 1, 2 and what its questions refuse with
pub record_lawful : (P : Refusal → Type 0) {A : Type 0} (kind : ℕ) (p : PayloadFormat A) → P (refusal 1) → P (refusal 2) → IsPayloadExact p → ((l : List ℕ) (r : Refusal) → p.questions l ≡ refuses r → P r) → IsLawful P (record_of kind p)
record_lawful P kind p one two x more = record { exact = record_exact kind p x; refusing = record_refuses P kind p one two more }

infixr 10 ◌then_lawful◌
pub ◌then_lawful◌ : {P : Refusal → Type 0} {A B : Type 0} {f : Format A} {g : A → Format B} → IsLawful P f → ((a : A) → f.valid a ≡ true → IsLawful P (g a)) → IsLawful P (f then g)
◌then_lawful◌ {P = P} {f = f} {g = g} x y = record {
  exact = then_exact f g x.exact (λ a v. (y a v).exact);
  refusing = then_refuses P f g x.exact.sound x.refusing (λ a v. (y a v).refusing);
}

pub optional_lawful : {P : Refusal → Type 0} {A : Type 0} (here : Bool) (kind : ℕ) (f : Format A) → Starts kind f → IsLawful P f → IsLawful P (optional_if here kind f)
optional_lawful {P = P} here kind f starts x = record {
  exact = optional_exact here kind f x.exact starts;
  refusing = optional_refuses P here kind f x.refusing;
}

pub choice_lawful : {P : Refusal → Type 0} {A : Type 0} {second : A → Bool} {f : Format A} {kind : ℕ} {g : Format A} → IsApart second f kind g → IsLawful P f → IsLawful P g → IsLawful P (choice second f kind g)
choice_lawful {P = P} {second = second} {f = f} {kind = kind} {g = g} k x y = record {
  exact = choice_exact second f kind g k x.exact y.exact;
  refusing = choice_refuses P second f kind g x.refusing y.refusing;
}
