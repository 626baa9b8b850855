-- Of specs/Placed: pieces put one behind the other, and a text put turn by turn of a loop.
use Prim.Native.Nat.{ℕ}
use mathlib.Core.Path.{◌≡◌, refl, sym, ap, ◌∙◌}
use mathlib.Core.Bool.{Bool, ◌||◌}
use mathlib.Core.List.{List, [], ◌∷◌, ◌++◌, append_assoc, append-nil}
use native.Mathlib.Omega.{arith}
use lib.Dec.{eqb}
use lib.ListN.{length, length-append}
use Rattle.std.specs.List.{list_any}
use Rattle.nodes.specs.Lists.{has}
use Rattle.texts.specs.Placed.{HasRoom, Puts}

-- what is left to put leads to the whole
pub record Leads (text rest start all : List ℕ) : Type 0 where
  pub same : text ++ rest ≡ start ++ all

pub leads_start : (start all : List ℕ) → Leads start all start all
leads_start start all = record { same = refl }

module _ {text rest start all : List ℕ} (l : Leads text rest start all) where
  pub room_here : (x more : List ℕ) → rest ≡ x ++ more → HasRoom all start → HasRoom x text
  room_here x more e r =
      omega (arith, r, ap length l.same, ap length e, length-append text rest, length-append x more, length-append start all)

  pub leads_on : (x more next : List ℕ) → rest ≡ x ++ more → Puts x text next → Leads next more start all
  leads_on x more next e p = record { same = ap (λ (t : List ℕ). t ++ more) p ∙ append_assoc text x more ∙ ap (λ (t : List ℕ). text ++ t) (sym e) ∙ l.same }

  pub leads_done : rest ≡ [] → Puts all start text
  leads_done e = sym (append-nil text) ∙ ap (λ (t : List ℕ). text ++ t) (sym e) ∙ l.same

-- ---- is a byte among others?
pub any_has : (ms : List ℕ) (m : ℕ) → list_any (λ x. eqb x m) ms ≡ has ms m
unfolding has
any_has [] m = refl
any_has (x ∷ ms) m = ap (λ (t : Bool). eqb x m || t) (any_has ms m)
