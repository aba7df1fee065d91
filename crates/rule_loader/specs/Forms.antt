-- What a command of a rule is: a handler, `when EVENT [priority N] [timing on|off] {BODY}` (iRules,
-- `when`), or a procedure, `proc NAME PARAMETERS BODY` (Tcl 8.4, proc(n)).
use Rattle.std.specs.Prelude.{ℕ, List, [], ◌∷◌, codes, Bool, ◌&&◌, ◌||◌, not, Option, Some, None}
use Rattle.std.specs.Prelude.{if◌then◌else◌}
use Rattle.rule_loader.specs.Parameters.{parameters_of}
use Rattle.tcl_trees.specs.Texts.{raw_of, is_text, is_braced, is_substituted}
use Rattle.tcl_trees.specs.Words.{word_place}
use Rattle.tcl_trees.specs.declared.procs.Parameter.{Parameter}
use Rattle.tcl_words.specs.Tree.{Word}

-- a handler: the words of its event, its priority and its body
pub record When : Type 0 where
  pub event : Word
  pub priority : Option Word
  pub body : Word

abbrev pub is_switched : Word → Bool
is_switched w = is_text (codes "on") w || is_text (codes "off") w

-- the body, before which `timing on` or `timing off` may stand
abbrev pub timed_body : List Word → Option Word
timed_body (body ∷ []) = Some body
timed_body (timing ∷ value ∷ body ∷ []) =
    if is_text (codes "timing") timing && is_switched value then Some body else None
timed_body words = None

-- a body stands in braces
abbrev pub when_with : Word → Option Word → Option Word → Option When
when_with event priority None = None
when_with event priority (Some body) =
    if is_braced body then Some (record { event = event; priority = priority; body = body })
    else None

abbrev pub behind_event : Word → List Word → Option When
behind_event event (w ∷ number ∷ words) =
    if is_text (codes "priority") w then when_with event (Some number) (timed_body words)
    else when_with event None (timed_body (w ∷ number ∷ words))
behind_event event words = when_with event None (timed_body words)

abbrev pub when_form : List Word → Option When
when_form (w ∷ event ∷ words) =
    if is_text (codes "when") w then behind_event event words else None
when_form words = None

-- a procedure: its name, with the place of its word, its parameters and the word of its body
pub record Definition : Type 0 where
  pub place : ℕ
  pub name : List ℕ
  pub parameters : List Parameter
  pub body : Word

abbrev pub definition : ℕ → Word → List ℕ → Option (List Parameter) → Option Definition
definition place body name None = None
definition place body name (Some parameters) =
    Some (record { place = place; name = name; parameters = parameters; body = body })

-- name and parameters are words without substitution
abbrev pub named_definition : ℕ → Word → Option (List ℕ) → Option (List ℕ) → Option Definition
named_definition place body (Some name) (Some list) =
    definition place body name (parameters_of list)
named_definition place body name list = None

-- and so is the body
abbrev pub proc_form : List Word → Option Definition
proc_form (w ∷ name ∷ list ∷ body ∷ []) =
    if is_text (codes "proc") w && not (is_substituted (raw_of body))
    then named_definition (word_place name) body (raw_of name) (raw_of list)
    else None
proc_form words = None
