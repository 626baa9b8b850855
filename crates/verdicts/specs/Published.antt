-- The published flow conditions, word by word, over any order of the nodes, and where the verifier differs from them.
-- `before i k` stands for i ≺ k: k is measured after i.
use Rattle.std.specs.Prelude.{ℕ, ◌<◌, ◌≡◌, Bool, ◌≢◌, ◌↔◌, ◌⊎◌, T, eqb}
use Rattle.flows.specs.Job.{Job, odd, plane_xy, plane_yz, plane_xz, pauli_x, pauli_y, pauli_z, is_x_or_y, is_y_or_z}
use Rattle.records.specs.JobFile.{mode_causal, mode_planes, mode_pauli}
use Rattle.records.specs.FlowFile.{Flow}

pub record IsStrictOrder (before : ℕ → ℕ → Type 0) : Type 0 where
  pub irreflexive : (i : ℕ) → before i i → ⊥
  pub transitive : (i k l : ℕ) → before i k → before k l → before i l

-- a node that is measured: no output
abbrev pub IsMeasured : Job → ℕ → Type 0
IsMeasured j i = (i < j.nodes) × (T (j.output i) → ⊥)

-- Danos and Kashefi 2006: f maps non-outputs to non-inputs, with i ~ f(i), i ≺ f(i), and i ≺ k for every neighbour k ≠ i of f(i)
pub record IsCausalFlow (j : Job) (before : ℕ → ℕ → Type 0) (f : ℕ → ℕ) : Type 0 where
  pub order : IsStrictOrder before
  pub node : (i : ℕ) → IsMeasured j i → f i < j.nodes
  pub no_input : (i : ℕ) → IsMeasured j i → T (j.input (f i)) → ⊥
  pub adjacent : (i : ℕ) → IsMeasured j i → T (j.edge (f i) i)
  pub successor : (i : ℕ) → IsMeasured j i → before i (f i)
  pub neighbours : (i k : ℕ) → IsMeasured j i → k < j.nodes → T (j.edge (f i) k) → k ≢ i → before i k

-- a causal flow as sets of one member each, f(i)
abbrev pub IsCausalSets : Job → (before : ℕ → ℕ → Type 0) (g : ℕ → ℕ → Bool) → Type 0
IsCausalSets j before g = (f : ℕ → ℕ) × IsCausalFlow j before f × ((i k : ℕ) → IsMeasured j i → k < j.nodes → g i k ≡ eqb k (f i))

-- the sets hold non-inputs only
abbrev pub HasNoInputs : Job → (ℕ → ℕ → Bool) → Type 0
HasNoInputs j g = (i k : ℕ) → IsMeasured j i → k < j.nodes → T (g i k) → T (j.input k) → ⊥

-- Backens et al. 2021, the conditions on order and planes
pub record MeetsPlaneConditions (j : Job) (before : ℕ → ℕ → Type 0) (g : ℕ → ℕ → Bool) : Type 0 where
  pub order : IsStrictOrder before
  pub members : (i k : ℕ) → IsMeasured j i → k < j.nodes → T (g i k) → k ≢ i → before i k
  pub odds : (i k : ℕ) → IsMeasured j i → k < j.nodes → T (odd j (g i) k) → k ≢ i → before i k
  pub xy : (i : ℕ) → IsMeasured j i → j.measured i ≡ plane_xy → (T (g i i) → ⊥) × T (odd j (g i) i)
  pub xz : (i : ℕ) → IsMeasured j i → j.measured i ≡ plane_xz → T (g i i) × T (odd j (g i) i)
  pub yz : (i : ℕ) → IsMeasured j i → j.measured i ≡ plane_yz → T (g i i) × (T (odd j (g i) i) → ⊥)

pub record IsPlaneFlow (j : Job) (before : ℕ → ℕ → Type 0) (g : ℕ → ℕ → Bool) : Type 0 where
  pub no_inputs : HasNoInputs j g
  pub conditions : MeetsPlaneConditions j before g

-- Simmons 2021, the conditions on order and measurements
pub record MeetsPauliConditions (j : Job) (before : ℕ → ℕ → Type 0) (p : ℕ → ℕ → Bool) : Type 0 where
  pub order : IsStrictOrder before
  pub members : (i k : ℕ) → IsMeasured j i → k < j.nodes → T (p i k) → k ≢ i → (T (is_x_or_y (j.measured k)) → ⊥) → before i k
  pub odds : (i k : ℕ) → IsMeasured j i → k < j.nodes → T (odd j (p i) k) → k ≢ i → (T (is_y_or_z (j.measured k)) → ⊥) → before i k
  pub ys : (i k : ℕ) → IsMeasured j i → k < j.nodes → j.measured k ≡ pauli_y → k ≢ i → (before i k → ⊥) → (T (p i k) ↔ T (odd j (p i) k))
  pub xy : (i : ℕ) → IsMeasured j i → j.measured i ≡ plane_xy → (T (p i i) → ⊥) × T (odd j (p i) i)
  pub xz : (i : ℕ) → IsMeasured j i → j.measured i ≡ plane_xz → T (p i i) × T (odd j (p i) i)
  pub yz : (i : ℕ) → IsMeasured j i → j.measured i ≡ plane_yz → T (p i i) × (T (odd j (p i) i) → ⊥)
  pub x : (i : ℕ) → IsMeasured j i → j.measured i ≡ pauli_x → T (odd j (p i) i)
  pub z : (i : ℕ) → IsMeasured j i → j.measured i ≡ pauli_z → T (p i i)
  pub y : (i : ℕ) → IsMeasured j i → j.measured i ≡ pauli_y → p i i ≢ odd j (p i) i

pub record IsPauliFlow (j : Job) (before : ℕ → ℕ → Type 0) (p : ℕ → ℕ → Bool) : Type 0 where
  pub no_inputs : HasNoInputs j p
  pub conditions : MeetsPauliConditions j before p

-- ---- by mode: 1 has Danos and Kashefi's flow, 2 Backens et al.'s, 3 Simmons'
abbrev pub ByMode : (mode : ℕ) (causal planes paulis : Type 0) → Type 0
ByMode mode causal planes paulis = ((mode ≡ mode_causal) × causal) ⊎ (((mode ≡ mode_planes) × planes) ⊎ ((mode ≡ mode_pauli) × paulis))

-- the paper of the mode calls the sets a flow in this order
abbrev pub IsPublishedFlow : ℕ → Job → (before : ℕ → ℕ → Type 0) (g : ℕ → ℕ → Bool) → Type 0
IsPublishedFlow mode j before g = ByMode mode (IsCausalSets j before g) (IsPlaneFlow j before g) (IsPauliFlow j before g)

-- ---- the verifier's order: a smaller layer is later
abbrev pub ByLayer : (ℕ → ℕ) → ℕ → ℕ → Type 0
ByLayer layer i k = layer k < layer i

-- ---- the listed differences
-- a node that is an input may be in its own set
abbrev pub HasNoOtherInputs : Job → (ℕ → ℕ → Bool) → Type 0
HasNoOtherInputs j g = (i k : ℕ) → IsMeasured j i → k < j.nodes → T (g i k) → T (j.input k) → k ≡ i

-- outputs have layer 0
abbrev pub HasOutputsAtZero : Job → (ℕ → ℕ) → Type 0
HasOutputsAtZero j layer = (u : ℕ) → u < j.nodes → T (j.output u) → layer u ≡ 0

-- in modes 1 and 2 the others have not
abbrev pub HasOthersAboveZero : Job → (ℕ → ℕ) → Type 0
HasOthersAboveZero j layer = (u : ℕ) → IsMeasured j u → 0 < layer u

-- the two together: what is asked of the layers besides their order. In mode 1 that order has the others above 0 already.
pub record MeetsLayerRule (mode : ℕ) (j : Job) (layer : ℕ → ℕ) : Type 0 where
  pub outputs : HasOutputsAtZero j layer
  pub others : mode ≡ mode_planes → HasOthersAboveZero j layer

-- the file has an entry for each non-output and for no other node: the domain of the published functions
abbrev pub IsDomain : Job → (ℕ → Bool) → Type 0
IsDomain j entry = (u : ℕ) → u < j.nodes → (T (entry u) ↔ (T (j.output u) → ⊥))

-- ---- what each mode's verifier is proved to accept
pub record IsCausalAccepted (j : Job) (f : Flow) : Type 0 where
  pub domain : IsDomain j f.entry
  pub outputs : HasOutputsAtZero j f.layer
  pub others : HasOthersAboveZero j f.layer
  pub flow : IsCausalSets j (ByLayer f.layer) f.set

pub record IsPlanesAccepted (j : Job) (f : Flow) : Type 0 where
  pub domain : IsDomain j f.entry
  pub outputs : HasOutputsAtZero j f.layer
  pub others : HasOthersAboveZero j f.layer
  pub inputs : HasNoOtherInputs j f.set
  pub conditions : MeetsPlaneConditions j (ByLayer f.layer) f.set

pub record IsPaulisAccepted (j : Job) (f : Flow) : Type 0 where
  pub domain : IsDomain j f.entry
  pub outputs : HasOutputsAtZero j f.layer
  pub inputs : HasNoOtherInputs j f.set
  pub conditions : MeetsPauliConditions j (ByLayer f.layer) f.set

abbrev pub IsAcceptedFlow : ℕ → Job → Flow → Type 0
IsAcceptedFlow mode j f = ByMode mode (IsCausalAccepted j f) (IsPlanesAccepted j f) (IsPaulisAccepted j f)
