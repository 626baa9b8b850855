-- The verifier's questions 13 to 19 in their order, for modes 1, 2 and 3. No answer: accepted.
use Rattle.std.specs.Prelude.{ℕ, zero, suc, ◌+◌, Bool, true, false, cond, not, ◌&&◌, ◌||◌, eqb, ltb}
use Rattle.std.specs.Bool.{beq}
use Rattle.std.proofs.Math.Option.{Option, none, some}
use Rattle.nodes.specs.Bit.{◌⊕◌}
use Rattle.nodes.specs.Row.{any_below}
use Rattle.flows.specs.Job.{Job, odd, own}
use Rattle.flows.specs.Conditions.{member_excused, odd_excused, y_asked, input_holds}
use Rattle.flows.specs.Search.{later_than}
use Rattle.answers.specs.Answer.{Refusal}
use Rattle.records.specs.JobFile.{mode_causal, mode_pauli}
use Rattle.records.specs.FlowFile.{Flow}

-- the question is passed, or refused with number, a and b
unfoldable pub ask : Bool → (number a b : ℕ) → Option Refusal
ask true q a b = none
ask false q a b = some (record { number = q; a = a; b = b })

infixr 20 ◌next◌
abbrev pub ◌next◌ : Option Refusal → Option Refusal → Option Refusal
none next q = q
(some r) next q = some r

-- the first refusal among the k nodes from i on
unfoldable pub each_from : ℕ → ℕ → (ℕ → Option Refusal) → Option Refusal
each_from i zero f = none
each_from i (suc k) f = let rest = each_from (i + 1) k f in f i next rest

abbrev pub each : ℕ → (ℕ → Option Refusal) → Option Refusal
each n f = each_from 0 n f

module _ (j : Job) (f : Flow) where
  -- ---- questions on sets
  -- is each member no input, the node itself excepted (13)
  abbrev pub input_ask : ℕ → ℕ → Option Refusal
  input_ask u k = ask (input_holds j (f.set u) u k) 13 u 0

  -- are the nodes with a non-empty set exactly the non-outputs (14)
  abbrev pub domain_ask : ℕ → Option Refusal
  domain_ask u = ask (beq (any_below j.nodes (f.set u)) (not (j.output u))) 14 u 0

  -- has each entry a measurement (17)
  abbrev pub measured_ask : ℕ → Option Refusal
  measured_ask u = ask (not (f.entry u) || not (eqb (j.measured u) 0)) 17 u 0

  -- does i's own measurement hold (19)
  abbrev pub own_ask : ℕ → Option Refusal
  own_ask i = ask (own (j.measured i) (f.set i i) (odd j (f.set i) i)) 19 i 0

  -- mode 1: are f(i) = k and i adjacent (18)
  abbrev pub adjacent_ask : ℕ → ℕ → Option Refusal
  adjacent_ask i k = ask (j.edge k i) 18 i k

  -- ---- questions on layers
  -- is each output in layer 0 (15)
  abbrev pub output_layer_ask : ℕ → Option Refusal
  output_layer_ask u = ask (eqb (f.layer u) 0) 15 u (f.layer u)

  -- in modes 1 and 2, is each other node above 0 (16)
  abbrev pub other_layer_ask : ℕ → ℕ → Option Refusal
  other_layer_ask mode u = ask (eqb mode mode_pauli || ltb 0 (f.layer u)) 16 u 0

  abbrev pub layer_ask : ℕ → ℕ → Option Refusal
  layer_ask mode u = cond (j.output u) (output_layer_ask u) (other_layer_ask mode u)

  -- 'later': a layer smaller than i's
  abbrev pub later : ℕ → ℕ → Bool
  later = later_than f.layer

  -- is k, where it is in s and not i itself, later or excused (18)
  abbrev pub later_ask : (ℕ → Bool) → (ℕ → Bool) → ℕ → ℕ → Option Refusal
  later_ask s excused i k = ask (not (s k) || eqb k i || later i k || excused k) 18 i k

  -- the excuses are those of `need`; nobody is excused but in mode 3
  abbrev pub member_ask : ℕ → ℕ → ℕ → Option Refusal
  member_ask mode i = later_ask (f.set i) (member_excused j (eqb mode mode_pauli)) i

  abbrev pub odd_ask : ℕ → ℕ → ℕ → Option Refusal
  odd_ask mode i = later_ask (odd j (f.set i)) (odd_excused j (eqb mode mode_pauli)) i

  -- in mode 3, is each Y node other than i that is in just one of set and Odd later (19)
  abbrev pub y_ask : ℕ → ℕ → ℕ → Option Refusal
  y_ask mode i k = ask (not (y_asked j (eqb mode mode_pauli) k && (f.set i k ⊕ odd j (f.set i) k)) || eqb k i || later i k) 19 i 0

  -- mode 1: is f(i) = k later; are k's neighbours other than i later (18)
  abbrev pub successor_ask : ℕ → ℕ → Option Refusal
  successor_ask i k = ask (later i k) 18 i k

  abbrev pub neighbour_ask : ℕ → ℕ → ℕ → Option Refusal
  neighbour_ask i k = later_ask (j.edge k) (λ v. false) i

  -- ---- their order
  -- modes 2 and 3, node i
  unfoldable pub node_ask : ℕ → ℕ → Option Refusal
  node_ask mode i = each j.nodes (member_ask mode i) next each j.nodes (odd_ask mode i) next each j.nodes (y_ask mode i) next own_ask i

  -- mode 1, node i with f(i) = k
  unfoldable pub causal_ask : ℕ → ℕ → Option Refusal
  causal_ask i k = successor_ask i k next each j.nodes (neighbour_ask i k) next adjacent_ask i k

  -- the one member of i's set is f(i)
  abbrev pub causal_node_ask : ℕ → Option Refusal
  causal_node_ask i = each j.nodes (λ k. cond (f.set i k) (causal_ask i k) none)

  -- by 14 and 17 the entries are those of the non-outputs
  abbrev pub definition_ask : ℕ → ℕ → Option Refusal
  definition_ask mode i = cond (j.output i) none (cond (eqb mode mode_causal) (causal_node_ask i) (node_ask mode i))

  -- 13 and 14 (`check_domain` of validate.rs)
  abbrev pub check_domain : Option Refusal
  check_domain = each j.nodes (λ u. each j.nodes (input_ask u)) next each j.nodes domain_ask

  -- 15 and 16 (`check_initial` of validate.rs)
  abbrev pub check_initial : ℕ → Option Refusal
  check_initial mode = each j.nodes (layer_ask mode)

  -- 17, 18 and 19 (the three `check_definition`)
  abbrev pub check_definition : ℕ → Option Refusal
  check_definition mode = each j.nodes measured_ask next each j.nodes (definition_ask mode)

  unfoldable pub verify : ℕ → Option Refusal
  verify mode = check_domain next check_initial mode next check_definition mode
