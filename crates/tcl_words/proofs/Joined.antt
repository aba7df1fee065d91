-- The reading and the grammar agree.
use Rattle.std.proofs.Common.{◌≡◌, ℕ, List, false, Option, Some, None, Ok, Result, refl, ap, subst}
use Rattle.std.proofs.Common.{arith}
use Rattle.tcl_words.specs.Grammar.{SpellsCommands, Spells}
use Rattle.tcl_words.specs.Reading.{commands, level, limit, beginning, unless, judged, reading}
use Rattle.tcl_words.specs.Tree.{Commands}
use Rattle.tcl_words.specs.declared.parse_fault.Fault.{Fault}
use Rattle.tcl_words.proofs.CompleteWords.{script_complete}
use Rattle.tcl_words.proofs.SoundLevels.{script_sound}

unless_ok : (f : Option Fault) (a b : Commands) → unless f a ≡ Ok b → (f ≡ None) × (a ≡ b)
unless_ok None a b h = (refl, cc)
unless_ok (Some e) a b h = absurd (grind arith)

pub read_is_spelled : (text : List ℕ) (tree : Commands) → reading text ≡ Ok tree → Spells text tree
unfolding reading limit
read_is_spelled text tree h =
    let r = commands (level 100) false text beginning in
    let both = unless_ok r.1.fault r.0 tree h in (
      r.1.at,
      subst (λ cs. SpellsCommands 100 false text 0 cs r.1.at) both.1
          (script_sound text beginning both.0).stands_so,
    )

pub spelled_is_read : (text : List ℕ) (tree : Commands) → Spells text tree → reading text ≡ Ok tree
unfolding reading limit
spelled_is_read text tree is = ap judged (script_complete text tree is.0 is.1)

ok_same : (x : Result Commands Fault) (a b : Commands) → x ≡ Ok a → x ≡ Ok b → a ≡ b
ok_same x a b h k = cc

pub one_script_read : (text : List ℕ) (a b : Commands) → Spells text a → Spells text b → a ≡ b
one_script_read text a b x y =
    ok_same (reading text) a b (spelled_is_read text a x) (spelled_is_read text b y)
