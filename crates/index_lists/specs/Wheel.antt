-- What a contract sees of a `Wheel`: a timer wheel as the list of its deadlines.
use Rattle.std.specs.Prelude.{◌≡◌, ℕ, ◌<◌, ◌≤◌, List, Option, Some, None, get_or}

-- the deadline of each number below the reserved one, or none
pub record Wheel : Type 0 where
  pub dues : List (Option ℕ)

-- the deadline of a number
abbrev pub due_of : List (Option ℕ) → ℕ → Option ℕ
due_of dues id = get_or dues id None

-- each deadline is above a moment
abbrev pub NoneDue : List (Option ℕ) → ℕ → Type 0
NoneDue dues moment = (id due : ℕ) → due_of dues id ≡ Some due → moment < due

-- due is the least of the deadlines
pub record IsNext (dues : List (Option ℕ)) (due : ℕ) : Type 0 where
  pub id : ℕ
  pub is : due_of dues id ≡ Some due
  pub least : (other later : ℕ) → due_of dues other ≡ Some later → due ≤ later

-- the deadline of a number has come
pub record IsDue (dues : List (Option ℕ)) (moment id : ℕ) : Type 0 where
  pub due : ℕ
  pub is : due_of dues id ≡ Some due
  pub come : due ≤ moment
