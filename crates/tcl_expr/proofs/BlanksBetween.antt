-- An expression with white space put in between its tokens.
use Rattle.std.proofs.Common.{◌≡◌, ◌⊎◌, inl, inr, refl, sym, ap, ap₂, subst, ◌∙◌, ℕ, zero, suc, ◌+◌, ◌<◌, ◌≤◌}
use Rattle.std.proofs.Common.{List, [], ◌∷◌, ◌++◌, length, Bool, true, false, cond, nat_lt, arith}
use Rattle.std.proofs.lemmas.Bool.Decides.{nat_tests}
use Rattle.std.specs.Prelude.{◌&&◌, ◌||◌, slice_index, slice_range}
use Rattle.tcl_expr.specs.Blanks.{OutOf, Beside, BesideOperand, BesidePrefixes, BesideMore, BesideRow}
use Rattle.tcl_expr.specs.Blanks.{BesideRows, BesideCases, BesideWhole, BesideInside, BlanksChangeOnlyPlaces}
use Rattle.tcl_expr.specs.Expression.{Expression, literal, joined, prefixed, row, choice}
use Rattle.tcl_expr.specs.Expression.{More, no_more, more, Cases, no_cases, case}
use Rattle.tcl_expr.specs.ExpressionReading.{prefixed_by, row_of, choice_of}
use Rattle.tcl_expr.specs.Grammar.{Spelling, SpellsToken, SpellsClosed, SpellsOperand, SpellsPrefixes}
use Rattle.tcl_expr.specs.Grammar.{SpellsMore, SpellsRow, SpellsRows, SpellsCases, SpellsWhole, SpellsInside}
use Rattle.tcl_expr.specs.Moved.{moved_span, moved_parts, moved, moved_more, moved_cases}
use Rattle.tcl_expr.specs.Tokens.{white_end, prefix_at, joint_at, before_row, inside_row}
use Rattle.tcl_expr.specs.declared.operator.Op1.{Op1}
use Rattle.tcl_words.specs.Places.{stands, is_letter, letter_stands, names}
use Rattle.tcl_words.specs.Tree.{Parts, from_to}
use Rattle.tcl_expr.proofs.Carried.{Carried}
use Rattle.tcl_expr.proofs.VariableNames.{Ends, joined_within}
use Rattle.tcl_expr.proofs.CarriedTokens.{quoted_at, braced_at, substituted_at}
use Rattle.tcl_expr.proofs.GrammarPlaces.{prefix_on, joint_on, token_lies}
use Rattle.tcl_expr.proofs.InsertedNumbers.{literal_before, literal_behind, range_behind}
use Rattle.tcl_expr.proofs.InsertedTokens.{first_white, put_not, first_goes, none_goes, before_plain, inside_plain}
use Rattle.tcl_expr.proofs.Insertions.{test_same, test_moved, stands_same, stands_moved, stands_goes, white_before, white_behind, white_after}
use Rattle.tcl_expr.proofs.Put.{Put, put, move, move_front, move_behind, side}

moved_prefixed : (b n : ℕ) (ops : List Op1) (e : Expression) → moved b n (prefixed_by ops e) ≡ prefixed_by ops (moved b n e)
moved_prefixed b n [] e = refl
moved_prefixed b n (op ∷ ops) e = refl

moved_row : (b n : ℕ) (e : Expression) (m : More) → moved b n (row_of e m) ≡ row_of (moved b n e) (moved_more b n m)
moved_row b n e no_more = refl
moved_row b n e (more o f m) = refl

moved_choice : (b n : ℕ) (cs : Cases) (e : Expression) → moved b n (choice_of cs e) ≡ choice_of (moved_cases b n cs) (moved b n e)
moved_choice b n no_cases e = refl
moved_choice b n (case c v cs) e = refl

-- what is spelled so, beside the place, is spelled so in the new text
abbrev Goes : ℕ → ℕ → (A : Spelling) → Beside A → Spelling → Type 0
Goes b n A beside B = (at : ℕ) (e : Expression) (end : ℕ) (is : A at e end) → beside at e end is → B (move b n at) (moved b n e) (move b n end)

from_zero : (k : ℕ) → k ≡ 0 + k
from_zero k = omega arith

neither : (s t : Bool) → (s || t) ≡ false → s ≡ false
neither true t h = cc
neither false t h = refl

second_false : (s t : Bool) → t ≡ false → (s && t) ≡ false
second_false true t h = h
second_false false t h = refl

module _ (b n : ℕ) (text new : List ℕ) (p : Put b n text new) where
  front_moved : (i j : ℕ) → i < b → moved_span b n (from_to i j) ≡ from_to (0 + i) (0 + j)
  front_moved i j h = let e : nat_lt i b ≡ true = grind (arith, nat_tests) in ap (λ t. cond t (from_to i j) (from_to (n + i) (n + j))) e ∙ ap₂ from_to (from_zero i) (from_zero j)

  behind_moved : (i j : ℕ) → b ≤ i → moved_span b n (from_to i j) ≡ from_to (n + i) (n + j)
  behind_moved i j h = let e : nat_lt i b ≡ false = grind (arith, nat_tests) in ap (λ t. cond t (from_to i j) (from_to (n + i) (n + j))) e

  carried_before : Carried b n 0 0 b text new
  carried_before = record {
    within = p.within;
    within_new = let w = p.within in let s = p.size in omega (arith, w, s);
    index = λ k l h. ap (slice_index new) (sym (from_zero k)) ∙ p.same k h;
    cut = λ i j l h q. ap₂ (slice_range new) (sym (from_zero i)) (sym (from_zero j)) ∙ p.cut i j h q;
    spans = λ i j l h. front_moved i j h;
  }

  carried_behind : Carried b n n b (length text) text new
  carried_behind = record {
    within = omega arith;
    within_new = let s = p.size in omega (arith, s);
    index = λ k l h. p.moved k l;
    cut = λ i j l h q. range_behind b n text new p i j l;
    spans = λ i j l h. behind_moved i j l;
  }

  letter_same : (k : ℕ) → k < b → letter_stands new k ≡ letter_stands text k
  unfolding letter_stands
  letter_same k h = test_same b n text new p is_letter k h

  letter_moved : (k : ℕ) → b ≤ k → letter_stands new (n + k) ≡ letter_stands text k
  unfolding letter_stands
  letter_moved k h = test_moved b n text new p is_letter k h

  put_no_letter : letter_stands new b ≡ false
  unfolding letter_stands is_letter
  put_no_letter =
      let w = first_white b n text new p in
      grind (arith, nat_tests)

  no_name_within : (last : ℕ) → last < b → names text last ≡ false → names new last ≡ false
  unfolding names
  no_name_within last h e = by_side (side b (last + 1)) where
    by_side : (last + 1 < b) ⊎ (b ≤ last + 1) → (letter_stands new last || (stands new last 58 && stands new (last + 1) 58)) ≡ false
    by_side (inl l) = ap₂ (λ t u. t || u) (letter_same last h) (ap₂ (λ t u. t && u) (stands_same b n text new p last 58 h) (stands_same b n text new p (last + 1) 58 l)) ∙ e
    by_side (inr l) =
        let same : last + 1 ≡ b = omega (arith, h, l) in
        let none = ap (λ i. stands new i 58) same ∙ put_not b n text new p 58 refl in
        let letter = letter_same last h ∙ neither (letter_stands text last) (stands text last 58 && stands text (last + 1) 58) e in
        ap₂ (λ t u. t || u) letter (second_false (stands new last 58) (stands new (last + 1) 58) none)

  no_name_there : names new b ≡ false
  unfolding names
  no_name_there = ap₂ (λ t u. t || u) put_no_letter (ap (λ t. t && stands new (b + 1) 58) (put_not b n text new p 58 refl))

  ends_before : (last : ℕ) → last ≤ b → names text last ≡ false → stands text last 40 ≡ false → Ends 0 last new
  ends_before last h e f = by_side (side b last) where
    by_side : (last < b) ⊎ (b ≤ last) → Ends 0 last new
    by_side (inl l) = record { no_name = ap (names new) (sym (from_zero last)) ∙ no_name_within last l e; no_index = ap (λ i. stands new i 40) (sym (from_zero last)) ∙ stands_same b n text new p last 40 l ∙ f }
    by_side (inr l) =
        let same : 0 + last ≡ b = omega (arith, h, l) in
        record { no_name = ap (names new) same ∙ no_name_there; no_index = ap (λ i. stands new i 40) same ∙ put_not b n text new p 40 refl }

  ends_behind : (last : ℕ) → b ≤ last → names text last ≡ false → stands text last 40 ≡ false → Ends n last new
  unfolding names
  ends_behind last h e f =
      let next : n + last + 1 ≡ n + (last + 1) = omega arith in
      record {
        no_name = ap₂ (λ t u. t || u) (letter_moved last h) (ap₂ (λ t u. t && u) (stands_moved b n text new p last 58 h) (ap (λ i. stands new i 58) next ∙ stands_moved b n text new p (last + 1) 58 (omega (arith, h)))) ∙ e;
        no_index = stands_moved b n text new p last 40 h ∙ f;
      }

  joined_before : (room at : ℕ) (ps : Parts) (last : ℕ) → at < b → last ≤ b → SpellsToken room text at (joined ps) last → SpellsToken room new (0 + at) (joined (moved_parts b n ps)) (0 + last)
  joined_before room at ps last l h (inl is) = inl (quoted_at b n 0 0 b text new carried_before room at ps last (omega arith) h is)
  joined_before room at ps last l h (inr (inl is)) = inr (inl (braced_at b n 0 0 b text new carried_before room at ps last (omega arith) h is))
  joined_before room at ps last l h (inr (inr is)) = inr (inr (substituted_at b n 0 0 b text new carried_before room at ps last (omega arith) l h (ends_before last h) is))

  token_before : (room at : ℕ) (e : Expression) (last : ℕ) → at < b → last ≤ b → SpellsToken room text at e last → SpellsToken room new at (moved b n e) last
  token_before room at (literal bytes) last l h is =
      let on = token_lies room text at (literal bytes) last is in
      (literal_before b n text new p at last h is.0, is.1 ∙ sym (p.cut at last (let o = on.on in omega (arith, o)) h))
  token_before room at (joined ps) last l h is =
      subst (λ i. SpellsToken room new i (moved b n (joined ps)) last) (sym (from_zero at))
      (subst (λ i. SpellsToken room new (0 + at) (moved b n (joined ps)) i) (sym (from_zero last)) (joined_before room at ps last l h is))
  token_before room at (prefixed ops e) last l h is = absurd is
  token_before room at (row e m) last l h is = absurd is
  token_before room at (choice cs e) last l h is = absurd is

  token_behind : (room at : ℕ) (e : Expression) (last : ℕ) → b ≤ at → at < last → at < length text → SpellsToken room text at e last → SpellsToken room new (n + at) (moved b n e) (n + last)
  token_behind room at (literal bytes) last h l o is = (literal_behind b n text new p at last h is.0, is.1 ∙ sym (range_behind b n text new p at last h))
  token_behind room at (joined ps) last h l o (inl is) = inl (quoted_at b n n b (length text) text new carried_behind room at ps last h (joined_within room text at ps last (inl is)) is)
  token_behind room at (joined ps) last h l o (inr (inl is)) = inr (inl (braced_at b n n b (length text) text new carried_behind room at ps last h (joined_within room text at ps last (inr (inl is))) is))
  token_behind room at (joined ps) last h l o (inr (inr is)) = inr (inr (substituted_at b n n b (length text) text new carried_behind room at ps last h o (joined_within room text at ps last (inr (inr is))) (ends_behind last (omega (arith, h, l))) is))
  token_behind room at (prefixed ops e) last h l o is = absurd is
  token_behind room at (row e m) last h l o is = absurd is
  token_behind room at (choice cs e) last h l o is = absurd is

  token_goes : (room at : ℕ) (e : Expression) (last : ℕ) → SpellsToken room text at e last → OutOf b at last
      → (next : ℕ) × SpellsToken room new (move b n at) (moved b n e) next × (white_end new next ≡ move b n (white_end text last))
  token_goes room at e last is out = by_side (side b at) out where
    by_side : (at < b) ⊎ (b ≤ at) → OutOf b at last → (next : ℕ) × SpellsToken room new (move b n at) (moved b n e) next × (white_end new next ≡ move b n (white_end text last))
    by_side (inl h) (inl l) = (last, subst (λ i. SpellsToken room new i (moved b n e) last) (sym (move_front b n at h)) (token_before room at e last h l is), white_before b n text new p last l)
    by_side (inl h) (inr l) = absurd (omega (arith, h, l))
    by_side (inr h) o =
        let on = token_lies room text at e last is in
        let l = on.on in
        (n + last, subst (λ i. SpellsToken room new i (moved b n e) (n + last)) (sym (move_behind b n at h)) (token_behind room at e last h l on.within is), white_behind b n text new p last (omega (arith, h, l)))

  closed_goes : (A B : Spelling) (beside : Beside A) → Goes b n A beside B → (close at : ℕ) (e : Expression) (end : ℕ) (is : SpellsClosed A close text at e end) → beside at e is.mid is.inside → SpellsClosed B close new (move b n at) (moved b n e) (move b n end)
  closed_goes A B beside goes close at e end is out = record {
    mid = move b n is.mid;
    inside = goes at e is.mid is.inside out;
    is_closed = stands_goes b n text new p is.mid close ∙ is.is_closed;
    end_is = ap (move b n) is.end_is ∙ sym (white_after b n text new p is.mid);
  }

  operand_goes : (room : ℕ) (A B : Spelling) (beside : Beside A) → Goes b n A beside B → Goes b n (SpellsOperand room A text) (BesideOperand b room A beside text) (SpellsOperand room B new)
  operand_goes room A B beside goes at e end (inl is) out = inl (stands_goes b n text new p at 40 ∙ is.0, closed_goes A B beside goes 41 at e end is.1 out)
  operand_goes room A B beside goes at e end (inr is) out =
      let t = token_goes room at e is.0 is.1 out in
      inr (t.0, t.1, ap (move b n) is.2 ∙ sym t.2)

  prefixes_go : (k at : ℕ) (ops : List Op1) (end : ℕ) (is : SpellsPrefixes k text at ops end) → BesidePrefixes b k text at ops end is → SpellsPrefixes k new (move b n at) ops (move b n end)
  unfolding prefix_at
  prefixes_go k at [] end is out = (none_goes b n text new p (before_row k) at (before_plain k) out is.0, ap (move b n) is.1)
  prefixes_go k at (op ∷ ops) end is out =
      let f = first_goes b n text new p (before_row k) at op is.0 (prefix_on k text at op is.0 is.1) (before_plain k) out.0 is.1 in
      (f.0, f.1, subst (λ i. SpellsPrefixes k new i ops (move b n end)) (sym f.2) (prefixes_go k (white_end text is.0) ops end is.2 out.1))

  more_goes : (k : ℕ) (A B : Spelling) (beside : Beside A) → Goes b n A beside B → (at : ℕ) (m : More) (end : ℕ) (is : SpellsMore k A text at m end) → BesideMore b k A beside text at m end is → SpellsMore k B new (move b n at) (moved_more b n m) (move b n end)
  unfolding joint_at
  more_goes k A B beside goes at no_more end is out = (none_goes b n text new p (inside_row k) at (inside_plain k) out is.0, ap (move b n) is.1)
  more_goes k A B beside goes at (more o e rest) end is out =
      let f = first_goes b n text new p (inside_row k) at o is.0 (joint_on k text at o is.0 is.2) (inside_plain k) out.0 is.2 in
      (f.0, move b n is.1, f.1, subst (λ i. B i (moved b n e) (move b n is.1)) (sym f.2) (goes (white_end text is.0) e is.1 is.3 out.1), more_goes k A B beside goes is.1 rest end is.4 out.2)

  row_goes : (k : ℕ) (A B : Spelling) (beside : Beside A) → Goes b n A beside B → Goes b n (SpellsRow k A text) (BesideRow b k A beside text) (SpellsRow k B new)
  row_goes k A B beside goes at e end is out = record {
    before = is.before;
    start = move b n is.start;
    prefixes = prefixes_go k at is.before is.start is.prefixes out.0;
    first = moved b n is.first;
    mid = move b n is.mid;
    operand = goes is.start is.first is.mid is.operand out.1;
    rest = moved_more b n is.rest;
    joints = more_goes k A B beside goes is.mid is.rest end is.joints out.2;
    whole = ap (moved b n) is.whole ∙ moved_row b n (prefixed_by is.before is.first) is.rest ∙ ap (λ x. row_of x (moved_more b n is.rest)) (moved_prefixed b n is.before is.first);
  }

  rows_go : (k : ℕ) (A B : Spelling) (beside : Beside A) → Goes b n A beside B → Goes b n (SpellsRows k A text) (BesideRows b k A beside text) (SpellsRows k B new)
  rows_go zero A B beside goes = goes
  rows_go (suc k) A B beside goes = row_goes (suc k) (SpellsRows k A text) (SpellsRows k B new) (BesideRows b k A beside text) (rows_go k A B beside goes)

  cases_go : (I J : Spelling) (inside : Beside I) → Goes b n I inside J → (A B : Spelling) (beside : Beside A) → Goes b n A beside B → (at : ℕ) (cs : Cases) (last : Expression) (end : ℕ) (is : SpellsCases I A text at cs last end)
      → BesideCases I inside A beside text at cs last end is → SpellsCases J B new (move b n at) (moved_cases b n cs) (moved b n last) (move b n end)
  cases_go I J inside within A B beside goes at no_cases last end is out = (goes at last end is.0 out, stands_goes b n text new p end 63 ∙ is.1)
  cases_go I J inside within A B beside goes at (case c v cs) last end is out =
      (move b n is.0, move b n is.1, goes at c is.0 is.2 out.0, stands_goes b n text new p is.0 63 ∙ is.3, closed_goes I J inside within 58 is.0 v is.1 is.4 out.1, cases_go I J inside within A B beside goes is.1 cs last end is.5 out.2)

  whole_goes : (room : ℕ) (A B : Spelling) (beside : Beside A) → Goes b n A beside B → Goes b n (SpellsWhole room A text) (BesideWhole b room A beside text) (SpellsWhole room B new)
  whole_goes room A B beside goes at e end is out = record {
    cases = moved_cases b n is.cases;
    last = moved b n is.last;
    chosen = cases_go A B beside goes (SpellsRows 13 (SpellsOperand room A text) text) (SpellsRows 13 (SpellsOperand room B new) new)
        (BesideRows b 13 (SpellsOperand room A text) (BesideOperand b room A beside text) text)
        (rows_go 13 (SpellsOperand room A text) (SpellsOperand room B new) (BesideOperand b room A beside text) (operand_goes room A B beside goes)) at is.cases is.last end is.chosen out;
    whole = ap (moved b n) is.whole ∙ moved_choice b n is.cases is.last;
  }

  inside_goes : (room : ℕ) → Goes b n (SpellsInside room text) (BesideInside b room text) (SpellsInside room new)
  inside_goes zero at e end is out = absurd is
  inside_goes (suc room) at e end is out =
      subst (λ i. SpellsWhole room (SpellsInside room new) new i (moved b n e) (move b n end)) (sym (white_after b n text new p at))
      (whole_goes room (SpellsInside room text) (SpellsInside room new) (BesideInside b room text) (inside_goes room) (white_end text (at + 1)) e end is out)

pub blanks_change_only_places : BlanksChangeOnlyPlaces
blanks_change_only_places room before blanks behind e white some is between =
    let b = length before in
    let n = length blanks in
    let text = before ++ behind in
    let new = before ++ (blanks ++ behind) in
    let p = put before blanks behind white some between.unescaped in
    let last : move b n (length text) ≡ length new = move_behind b n (length text) p.within ∙ sym p.size in
    subst (λ i. SpellsWhole room (SpellsInside room new) new (white_end new 0) (moved b n e) i) last
    (subst (λ i. SpellsWhole room (SpellsInside room new) new i (moved b n e) (move b n (length text))) (sym (white_before b n text new p 0 (omega arith)))
    (whole_goes b n text new p room (SpellsInside room text) (SpellsInside room new) (BesideInside b room text) (inside_goes b n text new p room) (white_end text 0) e (length text) is between.beside))
