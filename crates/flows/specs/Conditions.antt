-- The conditions on a node's set, one rule for modes 2 and 3: mode 2 is mode 3 with nobody excused. What is asked of the set alone
-- (`own_holds`) stands apart from which nodes have to be later (`need`); both go by the set, not by layers.
use Rattle.std.specs.Prelude.{ℕ, Bool, not, ◌&&◌, ◌||◌, eqb}
use Rattle.nodes.specs.Bit.{◌⊕◌}
use Rattle.nodes.specs.Row.{any_below, all_below}
use Rattle.flows.specs.Job.{Job, odd, own, is_x_or_y, is_y_or_z, pauli_y}

-- ---- who is excused
-- with Paulis a member measured in X or Y need not be later
abbrev pub member_excused : Job → Bool → ℕ → Bool
member_excused j pauli k = pauli && is_x_or_y (j.measured k)

-- nor need a node of Odd measured in Y or Z
abbrev pub odd_excused : Job → Bool → ℕ → Bool
odd_excused j pauli k = pauli && is_y_or_z (j.measured k)

-- yet a Y node, excused both ways, has to be later where it is in just one of set and Odd
abbrev pub y_asked : Job → Bool → ℕ → Bool
y_asked j pauli k = pauli && eqb (j.measured k) pauli_y

-- ---- which nodes have to be later than i when i has this set
unfoldable pub need : Job → Bool → (set : ℕ → Bool) → ℕ → ℕ → Bool
need j pauli set i k =
    not (eqb k i)
    && (set k && not (member_excused j pauli k)
    || odd j set k && not (odd_excused j pauli k)
    || y_asked j pauli k && (set k ⊕ odd j set k))

-- ---- what is asked of the set alone
-- a member is no input, i itself excepted
abbrev pub input_holds : Job → (set : ℕ → Bool) → ℕ → ℕ → Bool
input_holds j set i k = not (set k) || not (j.input k) || eqb k i

-- and i's own measurement holds
unfoldable pub own_holds : Job → (set : ℕ → Bool) → ℕ → Bool
own_holds j set i = all_below j.nodes (input_holds j set i) && own (j.measured i) (set i) (odd j set i)

-- ---- the set corrects i where the nodes `later` are later: it holds by itself, and each needed node is later
unfoldable pub corrects : Job → Bool → (later set : ℕ → Bool) → ℕ → Bool
corrects j pauli later set i = own_holds j set i && all_below j.nodes (λ k. not (need j pauli set i k) || later k)

-- ---- mode 1 beside it, where the set of i is f(i) alone
-- f(i) has to be later than i, and so have its neighbours other than i
unfoldable pub causal_need : Job → (set : ℕ → Bool) → ℕ → ℕ → Bool
causal_need j set i k = set k || not (eqb k i) && any_below j.nodes (λ s. set s && j.edge s k)

-- f(i) is no input and adjacent to i
unfoldable pub causal_holds : Job → (set : ℕ → Bool) → ℕ → Bool
causal_holds j set i = all_below j.nodes (λ s. input_holds j set i s && (not (set s) || j.edge s i))
