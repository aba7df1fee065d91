-- What kind of command a name is.
use Rattle.std.specs.Prelude.{◌≡◌, ◌↔◌, ℕ, List, [], ◌∷◌, codes, Bool, true, false, is_some}
use Rattle.std.specs.List.{list_any}
use Rattle.std.specs.Str.{bytes_eq}
use Rattle.event_order.specs.Command.{Allows, IsHostCommand}
use Rattle.event_order.specs.declared.event.EventName.{EventName}
use Rattle.tcl_commands.specs.PureCommand.{pure_of}
use Rattle.tcl_commands.specs.declared.kind.Kind as kind
use Rattle.tcl_commands.specs.declared.kind.Kind.TheVariants.{Pure, Control, Host, Unknown}

-- the commands that steer a script, or read and write its variables: Tcl 8.4, the manual page of
-- each; `call` stands for the call of a procedure
abbrev pub control_names : List (List ℕ)
control_names =
    codes "set" ∷ codes "unset" ∷ codes "incr" ∷ codes "append" ∷ codes "lappend"
    ∷ codes "array" ∷ codes "info" ∷ codes "if" ∷ codes "while" ∷ codes "for"
    ∷ codes "foreach" ∷ codes "switch" ∷ codes "expr" ∷ codes "catch" ∷ codes "return"
    ∷ codes "break" ∷ codes "continue" ∷ codes "error" ∷ codes "call" ∷ []

abbrev pub is_pure : List ℕ → Bool
is_pure name = is_some (pure_of name)

abbrev pub is_control : List ℕ → Bool
is_control name = list_any (λ control. bytes_eq control name) control_names

-- the kind of the command of this name; what is none of the others is unknown
abbrev pub KindIs : List ℕ → kind.Kind → Type 0
KindIs name Pure = is_pure name ≡ true
KindIs name Control = is_control name ≡ true
KindIs name Host = IsHostCommand name
KindIs name Unknown =
    (is_pure name ≡ false) × (is_control name ≡ false) × (IsHostCommand name → ⊥)

-- no name is of two kinds
abbrev pub OneKind : Type 0
OneKind = (name : List ℕ) (a b : kind.Kind) → KindIs name a → KindIs name b → a ≡ b

-- a command is the host's exactly where some event allows it
abbrev pub HostCommandsAreThoseOfEvents : Type 0
HostCommandsAreThoseOfEvents =
    (name : List ℕ) → KindIs name Host ↔ ((e : EventName) × Allows name e)
