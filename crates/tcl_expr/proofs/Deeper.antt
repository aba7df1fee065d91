-- What is spelled with some room is spelled with more.
use Rattle.std.proofs.Common.{◌≡◌, ◌⊎◌, inl, inr, refl, sym, ap, subst, ◌∙◌, ℕ, zero, suc, ◌+◌, ◌≤◌, List, [], ◌∷◌, length}
use Rattle.std.proofs.Common.{Bool, true, false, arith}
use Rattle.std.proofs.lemmas.Bool.Decides.{nat_tests}
use Rattle.std.specs.Prelude.{◌&&◌, ◌||◌, nat_le}
use Rattle.tcl_words.specs.Grammar.{Enclosed, empty_part, SpellsBraces, SpellsPart, SpellsParts, SpellsWord}
use Rattle.tcl_words.specs.Grammar.{SpellsWords, SpellsCommand, SpellsCommands, SpellsVariable, SpellsBracedName}
use Rattle.tcl_words.specs.Places.{stands, starts_variable, closes}
use Rattle.tcl_words.specs.Skips.{gap_end, blanks_end}
use Rattle.tcl_words.specs.Tree.{Part, plain, variable, element, bracket, Parts, no_parts, and_part, Word, word}
use Rattle.tcl_words.specs.Tree.{Words, no_words, and_word, Command, command, Commands, no_commands, and_command}
use Rattle.tcl_words.specs.Tree.{from_to}
use Rattle.tcl_words.specs.Values.{inner_after, brace_unit_end}
use Rattle.tcl_words.specs.declared.places.Closer.{Closer}
use Rattle.tcl_words.specs.declared.places.Closer.TheVariants.{Quote, Paren}
use Rattle.tcl_words.specs.declared.script.Form.TheVariants.{Bare, Quoted, Braced}
use Rattle.tcl_expr.specs.Expression.{Expression, literal, joined, prefixed, row, choice}
use Rattle.tcl_expr.specs.Expression.{More, no_more, more, Cases, no_cases, case}
use Rattle.tcl_expr.specs.Grammar.{Spelling, SpellsQuoted, SpellsBraced, SpellsSubstituted, SpellsToken}
use Rattle.tcl_expr.specs.Grammar.{SpellsClosed, SpellsOperand, SpellsMore, SpellsRow, SpellsRows, SpellsCases}
use Rattle.tcl_expr.specs.Grammar.{SpellsWhole, SpellsInside, SpellsWithin}
use Rattle.tcl_expr.specs.GrammarLaws.{MoreRoomIsSame}
use Rattle.tcl_expr.specs.Tokens.{white_end}

-- ---- words

shallower : (a : Bool) (room inner : ℕ) → (a && nat_le room inner) ≡ false → (a && nat_le (suc room) inner) ≡ false
shallower true room inner h = grind (arith, nat_tests)
shallower false room inner h = refl

deeper_braces : (n room : ℕ) (text : List ℕ) (inner at : ℕ) (bytes : List ℕ) (end : ℕ) → SpellsBraces n room text inner at bytes end → SpellsBraces n (suc room) text inner at bytes end
deeper_braces zero room text inner at bytes end is = is
deeper_braces (suc n) room text inner at bytes end is =
    (is.0, is.1, shallower (stands text at 123) room inner is.2, is.3, deeper_braces n room text (inner_after text at inner) (brace_unit_end text at) is.0 end is.4)

-- what is enclosed, by what its inside is with more room
deeper_enclosed : (room : ℕ) (Inside : ℕ → ℕ → Type 0) (text : List ℕ) (last end : ℕ) → ((below close : ℕ) → Inside below close → Inside (suc below) close) → Enclosed room Inside text last end → Enclosed (suc room) Inside text last end
deeper_enclosed room Inside text last end inside e =
    record { below = suc e.below; close = e.close; has_room = ap suc e.has_room; inside = inside e.below e.close e.inside; is_closed = e.is_closed; end_is = e.end_is }

-- between quotes, by what its parts are with more room
deeper_quotes : (room : ℕ) (text : List ℕ) (at : ℕ) (ps : Parts) (close : ℕ)
    → (SpellsParts room Quote text (at + 1) ps close → SpellsParts (suc room) Quote text (at + 1) ps close)
    → (closes Quote text (at + 1) ≡ true) × (at + 1 ≡ close) × (ps ≡ empty_part (at + 1)) ⊎ (closes Quote text (at + 1) ≡ false) × SpellsParts room Quote text (at + 1) ps close
    → (closes Quote text (at + 1) ≡ true) × (at + 1 ≡ close) × (ps ≡ empty_part (at + 1)) ⊎ (closes Quote text (at + 1) ≡ false) × SpellsParts (suc room) Quote text (at + 1) ps close
deeper_quotes room text at ps close parts (inl is) = inl is
deeper_quotes room text at ps close parts (inr is) = inr (is.0, parts is.1)

mutual
  deeper_part : (room : ℕ) (c : Closer) (text : List ℕ) (at : ℕ) (p : Part) (end : ℕ) → SpellsPart room c text at p end → SpellsPart (suc room) c text at p end
  deeper_part room c text at (plain span bytes) end is = is
  deeper_part room c text at (variable span name) end (is, inl v) = (is, inl v)
  deeper_part room c text at (variable span name) end (is, inr v) = (is, inr (record { opens = v.opens; enclosed = deeper_enclosed room _ text 125 end (λ below close i. i) v.enclosed }))
  deeper_part room c text at (element span name index) end is =
      let e = is.4 in
      (is.0, is.1, is.2, is.3, record { below = suc e.below; close = e.close; has_room = ap suc e.has_room; inside = deeper_parts e.below Paren text (is.0 + 1) index e.close e.inside; is_closed = e.is_closed; end_is = e.end_is })
  deeper_part room c text at (bracket span script) end is =
      let e = is.2 in
      (is.0, is.1, record { below = suc e.below; close = e.close; has_room = ap suc e.has_room; inside = (e.inside.0, e.inside.1, deeper_commands e.below true text (at + 1) script e.inside.0 e.inside.2); is_closed = e.is_closed; end_is = e.end_is })

  deeper_parts : (room : ℕ) (c : Closer) (text : List ℕ) (at : ℕ) (ps : Parts) (end : ℕ) → SpellsParts room c text at ps end → SpellsParts (suc room) c text at ps end
  deeper_parts room c text at no_parts end is = is
  deeper_parts room c text at (and_part p ps) end is = (is.0, is.1, deeper_part room c text at p is.0 is.2, deeper_parts room c text is.0 ps end is.3)

  deeper_word : (room : ℕ) (inside : Bool) (text : List ℕ) (at : ℕ) (w : Word) (end : ℕ) → SpellsWord room inside text at w end → SpellsWord (suc room) inside text at w end
  deeper_word room inside text at (word span Bare inner raw ps) end is = (is.0, is.1, deeper_parts room _ text at ps end is.2, is.3)
  deeper_word room inside text at (word span Quoted inner raw ps) end is =
      let e = is.2 in
      (is.0, is.1, record { below = suc e.below; close = e.close; has_room = ap suc e.has_room; inside = deeper_quotes e.below text at ps e.close (deeper_parts e.below Quote text (at + 1) ps e.close) e.inside; is_closed = e.is_closed; end_is = e.end_is }, is.3)
  deeper_word room inside text at (word span Braced inner raw ps) end is =
      let e = is.2 in
      (is.0, is.1, record { below = suc e.below; close = e.close; has_room = ap suc e.has_room; inside = (e.inside.0, e.inside.1, deeper_braces e.inside.0 e.below text 0 (at + 1) e.inside.1 e.close e.inside.2, e.inside.3); is_closed = e.is_closed; end_is = e.end_is }, is.3)

  deeper_words : (room : ℕ) (inside : Bool) (text : List ℕ) (at : ℕ) (ws : Words) (end : ℕ) → SpellsWords room inside text at ws end → SpellsWords (suc room) inside text at ws end
  deeper_words room inside text at no_words end is = is
  deeper_words room inside text at (and_word w ws) end is = (is.0, is.1, deeper_word room inside text (blanks_end text at) w is.0 is.2, deeper_words room inside text is.0 ws end is.3)

  deeper_command : (room : ℕ) (inside : Bool) (text : List ℕ) (at : ℕ) (c : Command) (end : ℕ) → SpellsCommand room inside text at c end → SpellsCommand (suc room) inside text at c end
  deeper_command room inside text at (command span ws) end is = (is.0, deeper_words room inside text at ws end is.1)

  deeper_commands : (room : ℕ) (inside : Bool) (text : List ℕ) (at : ℕ) (cs : Commands) (end : ℕ) → SpellsCommands room inside text at cs end → SpellsCommands (suc room) inside text at cs end
  deeper_commands room inside text at no_commands end is = is
  deeper_commands room inside text at (and_command c cs) end is = (is.0, is.1, deeper_command room inside text (gap_end text at) c is.0 is.2, deeper_commands room inside text is.0 cs end is.3)

-- ---- expressions

token_deeper : (room : ℕ) (text : List ℕ) (at : ℕ) (e : Expression) (last : ℕ) → SpellsToken room text at e last → SpellsToken (suc room) text at e last
token_deeper room text at (literal bytes) last is = is
token_deeper room text at (joined ps) last (inl is) =
    let e = is.1 in
    inl (is.0, record { below = suc e.below; close = e.close; has_room = ap suc e.has_room; inside = deeper_quotes e.below text at ps e.close (deeper_parts e.below Quote text (at + 1) ps e.close) e.inside; is_closed = e.is_closed; end_is = e.end_is })
token_deeper room text at (joined ps) last (inr (inl is)) =
    let e = is.1 in
    inr (inl (is.0, record { below = suc e.below; close = e.close; has_room = ap suc e.has_room; inside = (e.inside.0, e.inside.1, deeper_braces e.inside.0 e.below text 0 (at + 1) e.inside.1 e.close e.inside.2, e.inside.3); is_closed = e.is_closed; end_is = e.end_is }))
token_deeper room text at (joined no_parts) last (inr (inr is)) = absurd is
token_deeper room text at (joined (and_part p (and_part q ps))) last (inr (inr is)) = absurd is
token_deeper room text at (joined (and_part p no_parts)) last (inr (inr is)) = inr (inr (is.0, deeper_part room Quote text at p last is.1))
token_deeper room text at (prefixed ops e) last is = absurd is
token_deeper room text at (row e m) last is = absurd is
token_deeper room text at (choice cs e) last is = absurd is

-- whatever is spelled so is spelled also so
abbrev pub IsAlso : Spelling → Spelling → Type 0
IsAlso A B = (at : ℕ) (e : Expression) (end : ℕ) → A at e end → B at e end

closed_also : (A B : Spelling) (close : ℕ) (text : List ℕ) → IsAlso A B → IsAlso (SpellsClosed A close text) (SpellsClosed B close text)
closed_also A B close text also at e end is = record { mid = is.mid; inside = also at e is.mid is.inside; is_closed = is.is_closed; end_is = is.end_is }

operand_deeper : (room : ℕ) (A B : Spelling) (text : List ℕ) → IsAlso A B → IsAlso (SpellsOperand room A text) (SpellsOperand (suc room) B text)
operand_deeper room A B text also at e end (inl is) = inl (is.0, closed_also A B 41 text also at e end is.1)
operand_deeper room A B text also at e end (inr is) = inr (is.0, token_deeper room text at e is.0 is.1, is.2)

more_also : (k : ℕ) (A B : Spelling) (text : List ℕ) → IsAlso A B → (at : ℕ) (m : More) (end : ℕ) → SpellsMore k A text at m end → SpellsMore k B text at m end
more_also k A B text also at no_more end is = is
more_also k A B text also at (more o e rest) end is = (is.0, is.1, is.2, also (white_end text is.0) e is.1 is.3, more_also k A B text also is.1 rest end is.4)

rows_also : (k : ℕ) (A B : Spelling) (text : List ℕ) → IsAlso A B → IsAlso (SpellsRows k A text) (SpellsRows k B text)
rows_also zero A B text also at e end is = also at e end is
rows_also (suc k) A B text also at e end is =
    let tighter = rows_also k A B text also in
    record { before = is.before; start = is.start; prefixes = is.prefixes; first = is.first; mid = is.mid; operand = tighter is.start is.first is.mid is.operand; rest = is.rest; joints = more_also (suc k) (SpellsRows k A text) (SpellsRows k B text) text tighter is.mid is.rest end is.joints; whole = is.whole }

cases_also : (I J A B : Spelling) (text : List ℕ) → IsAlso I J → IsAlso A B → (at : ℕ) (cs : Cases) (last : Expression) (end : ℕ) → SpellsCases I A text at cs last end → SpellsCases J B text at cs last end
cases_also I J A B text inside also at no_cases last end is = (also at last end is.0, is.1)
cases_also I J A B text inside also at (case c v cs) last end is =
    (is.0, is.1, also at c is.0 is.2, is.3, closed_also I J 58 text inside is.0 v is.1 is.4, cases_also I J A B text inside also is.1 cs last end is.5)

whole_deeper : (room : ℕ) (A B : Spelling) (text : List ℕ) → IsAlso A B → IsAlso (SpellsWhole room A text) (SpellsWhole (suc room) B text)
whole_deeper room A B text also at e end is = record {
  cases = is.cases;
  last = is.last;
  chosen = cases_also A B (SpellsRows 13 (SpellsOperand room A text) text) (SpellsRows 13 (SpellsOperand (suc room) B text) text) text also
      (rows_also 13 (SpellsOperand room A text) (SpellsOperand (suc room) B text) text (operand_deeper room A B text also)) at is.cases is.last end is.chosen;
  whole = is.whole;
}

inside_deeper : (room : ℕ) (text : List ℕ) → IsAlso (SpellsInside room text) (SpellsInside (suc room) text)
inside_deeper zero text at e end is = absurd is
inside_deeper (suc room) text at e end is = whole_deeper room (SpellsInside room text) (SpellsInside (suc room) text) text (inside_deeper room text) (white_end text (at + 1)) e end is

pub more_room_is_same : MoreRoomIsSame
more_room_is_same room zero text e is = let k : room ≡ room + 0 = omega arith in subst (λ n. SpellsWithin n text e) k is
more_room_is_same room (suc m) text e is =
    let k : suc (room + m) ≡ room + suc m = omega arith in
    subst (λ n. SpellsWithin n text e) k
    (whole_deeper (room + m) (SpellsInside (room + m) text) (SpellsInside (suc (room + m)) text) text (inside_deeper (room + m) text) (white_end text 0) e (length text) (more_room_is_same room m text e is))
