-- One try for modes 2 and 3: what u meets when the nodes `later` were solved before its round, so that they are later than u.
-- Mode 2 is mode 3 with nobody excused.
use Rattle.std.specs.Prelude.{ℕ, Bool, not, ◌&&◌, ◌||◌, eqb}
use Rattle.std.proofs.Math.Option.{Option}
use Rattle.flows.specs.Job.{Job}
use Rattle.flows.specs.Conditions.{member_excused, odd_excused, y_asked}
use Rattle.flows.specs.Branch.{Context, try_node}

-- Columns: the later and the excused nodes that are no inputs. Upper rows: the nodes that may not be in Odd. Lower rows: the Y
-- nodes that may not be in just one of set and Odd. For u, u joins the upper rows and leaves the lower rows and the columns.
abbrev pub context_at : Job → Bool → (later : ℕ → Bool) → ℕ → Context
context_at j pauli later u = record {
  column = λ k. ((later k || member_excused j pauli k) && not (j.input k)) && not (eqb k u);
  upper = λ v. (not (later v) && not (odd_excused j pauli v)) || eqb v u;
  lower = λ v. (not (later v) && y_asked j pauli v) && not (eqb v u);
}

abbrev pub try_at : Job → Bool → (later : ℕ → Bool) → ℕ → Option (ℕ → Bool)
try_at j pauli later u = try_node j (context_at j pauli later u) u
