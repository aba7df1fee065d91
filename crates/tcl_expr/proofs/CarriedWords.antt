-- Words in a stretch of a text that stands in another text too.
use Rattle.std.proofs.Common.{◌≡◌, ◌⊎◌, inl, inr, refl, sym, ap, subst, ◌∙◌, ℕ, suc, ◌+◌, ◌≤◌}
use Rattle.std.proofs.Common.{List, [], Bool, true, Option, arith}
use Rattle.std.specs.Prelude.{slice_range}
use Rattle.tcl_words.specs.Finish.{raw_of}
use Rattle.tcl_words.specs.Grammar.{IsWhole, empty_part, SpellsBraces, SpellsName, SpellsVariable, SpellsBracedName, SpellsPart, SpellsParts}
use Rattle.tcl_words.specs.Grammar.{SpellsWord, SpellsWords, SpellsCommand, SpellsCommands}
use Rattle.tcl_words.specs.Places.{closes, word_closer, ends_script, ends_command}
use Rattle.tcl_words.specs.Skips.{name_end, brace_end, blanks_end, gap_end}
use Rattle.tcl_words.specs.Tree.{Part, plain, variable, element, bracket, Parts, no_parts, and_part, Word, word}
use Rattle.tcl_words.specs.Tree.{Words, no_words, and_word, Command, command, Commands, no_commands, and_command, from_to}
use Rattle.tcl_words.specs.declared.places.Closer.{Closer}
use Rattle.tcl_words.specs.declared.places.Closer.TheVariants.{Quote, Paren}
use Rattle.tcl_words.specs.declared.script.Form.{Form}
use Rattle.tcl_words.specs.declared.script.Form.TheVariants.{Bare, Quoted, Braced}
use Rattle.tcl_words.specs.declared.script.Span.{Span}
use Rattle.tcl_words.proofs.Further.{part_on, parts_on, word_on, words_on, command_on, commands_on, braces_on}
use Rattle.tcl_words.proofs.Levels.{word_opens}
use Rattle.tcl_words.proofs.Onward.{blanks_on, blanks_stop, gap_on, name_on, brace_on}
use Rattle.tcl_expr.specs.Moved.{moved_span, moved_part, moved_parts, moved_word, moved_words, moved_command, moved_commands}
use Rattle.tcl_expr.proofs.Carried.{Carried, Closing}
use Rattle.tcl_expr.proofs.CarriedTests.{st, opens, starts, closed, script_ends, command_ends, name_at, brace_at, blanks_at, gap_at}
use Rattle.tcl_expr.proofs.CarriedUnits.{run_at, braces_at}
use Rattle.tcl_expr.proofs.MovedWords.{Quotes, blanks_first, commands_gap, quotes_on, raw_moved}

module _ (b n d lo hi close : ℕ) (text new : List ℕ) (c : Carried b n d lo hi text new) (g : Closing hi text close) where
  forward : (k : ℕ) → d + (k + 1) ≡ d + k + 1
  forward k = omega arith

  pub span_at : (span : Span) (i j : ℕ) → lo ≤ i → i ≤ close → span ≡ from_to i j → moved_span b n span ≡ from_to (d + i) (d + j)
  span_at span i j l h is = let w = g.inside in ap (moved_span b n) is ∙ c.spans i j l (omega (arith, h, w))

  whole_at : (form : Form) (at end start last : ℕ) (span inner : Span) (raw : Option (List ℕ)) (ps : Parts) → lo ≤ at → at ≤ close → lo ≤ start → start ≤ last → last ≤ close
      → IsWhole text form at end start last span inner raw ps → IsWhole new form (d + at) (d + end) (d + start) (d + last) (moved_span b n span) (moved_span b n inner) raw (moved_parts b n ps)
  whole_at form at end start last span inner raw ps l h u v w is = record {
    span_is = span_at span at end l h is.span_is;
    inner_is = span_at inner start last u (omega (arith, v, w)) is.inner_is;
    raw_is = is.raw_is ∙ ap (λ xs. raw_of form xs ps) (sym (c.cut start last u v (let i = g.inside in omega (arith, w, i)))) ∙ raw_moved b n form (slice_range new (d + start) (d + last)) ps;
  }

  pub named_at : (at : ℕ) (name : List ℕ) (end : ℕ) → lo ≤ at → end ≤ close → SpellsName text at name end → SpellsName new (d + at) name (d + end)
  named_at at name end l h is =
      let on = name_on text (at + 1) in
      let here : at ≤ close = omega (arith, on, h, is.end_is) in
      record {
        starts = starts b n d lo hi close text new c g at l here ∙ is.starts;
        unbraced = opens b n d lo hi close text new c g at l here ∙ is.unbraced;
        end_is = ap (λ i. d + i) is.end_is ∙ sym (ap (name_end new) (sym (forward at)) ∙ name_at b n d lo hi close text new c g (at + 1) (omega (arith, l)) (omega (arith, h, is.end_is)));
        name_is = is.name_is ∙ sym (c.cut (at + 1) end (omega (arith, l)) (omega (arith, on, is.end_is)) (let i = g.inside in omega (arith, h, i))) ∙ ap (λ i. slice_range new i (d + end)) (forward at);
      }

  pub braced_name_at : (room at : ℕ) (name : List ℕ) (end : ℕ) → lo ≤ at → end ≤ suc close → SpellsBracedName room text at name end → SpellsBracedName room new (d + at) name (d + end)
  braced_name_at room at name end l h is =
      let e = is.enclosed in
      let on = brace_on text (at + 2) in
      let two : d + (at + 2) ≡ d + at + 2 = omega arith in
      let last : e.close ≤ close = omega (arith, h, e.end_is) in
      let i = g.inside in
      record {
        opens = opens b n d lo hi close text new c g at l (omega (arith, on, last, e.inside.0)) ∙ is.opens;
        enclosed = record {
          below = e.below;
          close = d + e.close;
          has_room = e.has_room;
          inside = (
            ap (λ i. d + i) e.inside.0 ∙ sym (ap (brace_end new) (sym two) ∙ brace_at b n d lo hi close text new c g (at + 2) (omega (arith, l)) (omega (arith, last, e.inside.0))),
            e.inside.1 ∙ sym (c.cut (at + 2) e.close (omega (arith, l)) (omega (arith, on, e.inside.0)) (omega (arith, last, i))) ∙ ap (λ i. slice_range new i (d + e.close)) two,
          );
          is_closed = st b n d lo hi close text new c g e.close 125 (omega (arith, l, on, e.inside.0)) last ∙ e.is_closed;
          end_is = ap (λ i. d + i) e.end_is ∙ forward e.close;
        };
      }

  variable_at : (room at : ℕ) (name : List ℕ) (end : ℕ) → lo ≤ at → end ≤ close → SpellsVariable text at name end ⊎ SpellsBracedName room text at name end → SpellsVariable new (d + at) name (d + end) ⊎ SpellsBracedName room new (d + at) name (d + end)
  variable_at room at name end l h (inl is) =
      let on = name_on text (at + 1) in
      inl (record { named = named_at at name end l h is.named; no_index = st b n d lo hi close text new c g end 40 (omega (arith, l, on, is.named.end_is)) h ∙ is.no_index })
  variable_at room at name end l h (inr is) = inr (braced_name_at room at name end l (omega (arith, h)) is)

  pub empty_at : (at last : ℕ) (ps : Parts) → lo ≤ at → at ≤ close → (closes Quote text at ≡ true) × (at ≡ last) × (ps ≡ empty_part at) → (closes Quote new (d + at) ≡ true) × (d + at ≡ d + last) × (moved_parts b n ps ≡ empty_part (d + at))
  empty_at at last ps l h is = (
    closed b n d lo hi close text new c g Quote at l h ∙ is.0,
    ap (λ i. d + i) is.1,
    ap (moved_parts b n) is.2 ∙ ap (λ s. and_part (plain s []) no_parts) (span_at (from_to at at) at at l h refl),
  )

  pub quotes_by : (room at : ℕ) (ps : Parts) (last : ℕ) → lo ≤ at → last ≤ close
      → (SpellsParts room Quote text at ps last → SpellsParts room Quote new (d + at) (moved_parts b n ps) (d + last))
      → Quotes room text at ps last → Quotes room new (d + at) (moved_parts b n ps) (d + last)
  quotes_by room at ps last l h parts (inl is) = inl (empty_at at last ps l (omega (arith, h, is.1)) is)
  quotes_by room at ps last l h parts (inr is) =
      let on = parts_on room Quote text at ps last is.1 in
      inr (closed b n d lo hi close text new c g Quote at l (omega (arith, h, on)) ∙ is.0, parts is.1)

  element_by : (room : ℕ) (e : Closer) (at : ℕ) (span : Span) (name : List ℕ) (index : Parts) (end : ℕ) → lo ≤ at → at ≤ close → end ≤ suc close → (is : SpellsPart room e text at (element span name index) end) → SpellsParts is.4.below Paren new (d + (is.0 + 1)) (moved_parts b n index) (d + is.4.close) → SpellsPart room e new (d + at) (moved_part b n (element span name index)) (d + end)
  element_by room e at span name index end l o h is inside =
      let i = is.4 in
      let named = name_on text (at + 1) in
      let more = parts_on i.below Paren text (is.0 + 1) index i.close i.inside in (
        d + is.0,
        span_at span at end l o is.1,
        named_at at name is.0 l (omega (arith, h, more, i.end_is)) is.2,
        st b n d lo hi close text new c g is.0 40 (omega (arith, l, named, is.2.end_is)) (omega (arith, h, more, i.end_is)) ∙ is.3,
        record {
          below = i.below;
          close = d + i.close;
          has_room = i.has_room;
          inside = subst (λ j. SpellsParts i.below Paren new j (moved_parts b n index) (d + i.close)) (forward is.0)
              inside;
          is_closed = st b n d lo hi close text new c g i.close 41 (omega (arith, l, named, more, is.2.end_is)) (omega (arith, h, i.end_is)) ∙ i.is_closed;
          end_is = ap (λ j. d + j) i.end_is ∙ forward i.close;
        },
      )

  bracket_by : (room : ℕ) (e : Closer) (at : ℕ) (span : Span) (script : Commands) (end : ℕ) → lo ≤ at → at ≤ close → end ≤ suc close → (is : SpellsPart room e text at (bracket span script) end) → SpellsCommands is.2.below true new (d + (at + 1)) (moved_commands b n script) (d + is.2.inside.0) → SpellsPart room e new (d + at) (moved_part b n (bracket span script)) (d + end)
  bracket_by room e at span script end l o h is inside =
      let i = is.2 in
      let more = commands_on i.below true text (at + 1) script i.inside.0 i.inside.2 in
      let gap = gap_on text i.inside.0 in (
        span_at span at end l o is.0,
        st b n d lo hi close text new c g at 91 l o ∙ is.1,
        record {
          below = i.below;
          close = d + i.close;
          has_room = i.has_room;
          inside = (
            d + i.inside.0,
            ap (λ j. d + j) i.inside.1 ∙ sym (gap_at b n d lo hi close text new c g i.inside.0 (omega (arith, l, more)) (omega (arith, h, i.end_is, i.inside.1))),
            subst (λ j. SpellsCommands i.below true new j (moved_commands b n script) (d + i.inside.0)) (forward at)
                inside,
          );
          is_closed = st b n d lo hi close text new c g i.close 93 (omega (arith, l, more, gap, i.inside.1)) (omega (arith, h, i.end_is)) ∙ i.is_closed;
          end_is = ap (λ j. d + j) i.end_is ∙ forward i.close;
        },
      )

  mutual
    pub part_at : (room : ℕ) (e : Closer) (at : ℕ) (p : Part) (end : ℕ) → lo ≤ at → at ≤ end → end ≤ close → SpellsPart room e text at p end → SpellsPart room e new (d + at) (moved_part b n p) (d + end)
    part_at room e at (plain span bytes) end l o h is =
        let here : at ≤ close = omega (arith, o, h) in
        (span_at span at end l here is.0, st b n d lo hi close text new c g at 91 l here ∙ is.1, starts b n d lo hi close text new c g at l here ∙ is.2, run_at b n d lo hi close text new c g e at bytes end l h is.3)
    part_at room e at (variable span name) end l o h is =
        (span_at span at end l (omega (arith, o, h)) is.0, variable_at room at name end l h is.1)
    part_at room e at (element span name index) end l o h is =
        let i = is.4 in
        let named = name_on text (at + 1) in
        element_by room e at span name index end l (omega (arith, o, h)) (omega (arith, h)) is
        (parts_at i.below Paren (is.0 + 1) index i.close (omega (arith, l, named, is.2.end_is)) (omega (arith, h, i.end_is)) i.inside)
    part_at room e at (bracket span script) end l o h is =
        let i = is.2 in
        let gap = gap_on text i.inside.0 in
        bracket_by room e at span script end l (omega (arith, o, h)) (omega (arith, h)) is
        (commands_at i.below true (at + 1) script i.inside.0 (omega (arith, l)) (omega (arith, h, gap, i.end_is, i.inside.1)) i.inside.2)

    pub parts_at : (room : ℕ) (e : Closer) (at : ℕ) (ps : Parts) (end : ℕ) → lo ≤ at → end ≤ close → SpellsParts room e text at ps end → SpellsParts room e new (d + at) (moved_parts b n ps) (d + end)
    parts_at room e at no_parts end l h is = (closed b n d lo hi close text new c g e at l (omega (arith, h, is.1)) ∙ is.0, ap (λ j. d + j) is.1)
    parts_at room e at (and_part p ps) end l h is =
        let on = part_on room e text at p is.0 is.1 is.2 in
        let more = parts_on room e text is.0 ps end is.3 in (
          d + is.0,
          closed b n d lo hi close text new c g e at l (omega (arith, h, on, more)) ∙ is.1,
          part_at room e at p is.0 l (omega (arith, on)) (omega (arith, more, h)) is.2,
          parts_at room e is.0 ps end (omega (arith, l, on)) h is.3,
        )

    word_at : (room : ℕ) (inside : Bool) (at : ℕ) (w : Word) (end : ℕ) → lo ≤ at → end ≤ close → SpellsWord room inside text at w end → SpellsWord room inside new (d + at) (moved_word b n w) (d + end)
    word_at room inside at (word span Bare inner raw ps) end l h is =
        let on = parts_on room (word_closer inside) text at ps end is.2 in
        let here : at ≤ close = omega (arith, on, h) in (
          st b n d lo hi close text new c g at 34 l here ∙ is.0,
          st b n d lo hi close text new c g at 123 l here ∙ is.1,
          parts_at room (word_closer inside) at ps end l h is.2,
          whole_at Bare at end at end span inner raw ps l here l on h is.3,
        )
    word_at room inside at (word span Quoted inner raw ps) end l h is =
        let q = is.2 in
        let on = quotes_on q.below text (at + 1) ps q.close q.inside in
        let last : q.close ≤ close = omega (arith, h, q.end_is) in
        let here : at ≤ close = omega (arith, on, last) in
        let start : lo ≤ at + 1 = omega (arith, l) in (
          st b n d lo hi close text new c g at 34 l here ∙ is.0,
          closed b n d lo hi close text new c g (word_closer inside) end (omega (arith, l, on, q.end_is)) h ∙ is.1,
          record {
            below = q.below;
            close = d + q.close;
            has_room = q.has_room;
            inside = subst (λ j. Quotes q.below new j (moved_parts b n ps) (d + q.close)) (forward at)
                (quotes_by q.below (at + 1) ps q.close start last (parts_at q.below Quote (at + 1) ps q.close start last) q.inside);
            is_closed = st b n d lo hi close text new c g q.close 34 (omega (arith, l, on)) last ∙ q.is_closed;
            end_is = ap (λ j. d + j) q.end_is ∙ forward q.close;
          },
          subst (λ j. IsWhole new Quoted (d + at) (d + end) j (d + q.close) (moved_span b n span) (moved_span b n inner) raw (moved_parts b n ps)) (forward at)
              (whole_at Quoted at end (at + 1) q.close span inner raw ps l here start on last is.3),
        )
    word_at room inside at (word span Braced inner raw ps) end l h is =
        let q = is.2 in
        let i = q.inside in
        let on = braces_on i.0 q.below text 0 (at + 1) i.1 q.close i.2 in
        let last : q.close ≤ close = omega (arith, h, q.end_is) in
        let here : at ≤ close = omega (arith, on, last) in
        let start : lo ≤ at + 1 = omega (arith, l) in (
          st b n d lo hi close text new c g at 123 l here ∙ is.0,
          closed b n d lo hi close text new c g (word_closer inside) end (omega (arith, l, on, q.end_is)) h ∙ is.1,
          record {
            below = q.below;
            close = d + q.close;
            has_room = q.has_room;
            inside = (
              i.0,
              i.1,
              subst (λ j. SpellsBraces i.0 q.below new 0 j i.1 (d + q.close)) (forward at) (braces_at b n d lo hi close text new c g i.0 q.below 0 (at + 1) i.1 q.close start last i.2),
              ap (moved_parts b n) i.3 ∙ ap (λ s. and_part (plain s i.1) no_parts) (span_at (from_to (at + 1) q.close) (at + 1) q.close start (omega (arith, on, last)) refl ∙ ap (λ j. from_to j (d + q.close)) (forward at)),
            );
            is_closed = st b n d lo hi close text new c g q.close 125 (omega (arith, l, on)) last ∙ q.is_closed;
            end_is = ap (λ j. d + j) q.end_is ∙ forward q.close;
          },
          subst (λ j. IsWhole new Braced (d + at) (d + end) j (d + q.close) (moved_span b n span) (moved_span b n inner) raw (moved_parts b n ps)) (forward at)
              (whole_at Braced at end (at + 1) q.close span inner raw ps l here start on last is.3),
        )

    words_at : (room : ℕ) (inside : Bool) (at : ℕ) (ws : Words) (end : ℕ) → lo ≤ at → end ≤ close → blanks_end text end ≤ close → SpellsWords room inside text at ws end → SpellsWords room inside new (d + at) (moved_words b n ws) (d + end)
    words_at room inside at no_words end l h last is =
        let on = blanks_on text at in
        let here : blanks_end text at ≤ close = subst (λ j. blanks_end text j ≤ close) (sym is.1) last in (
          ap (ends_command inside new) (blanks_at b n d lo hi close text new c g at l here)
              ∙ command_ends b n d lo hi close text new c g inside (blanks_end text at) (omega (arith, l, on)) here ∙ is.0,
          ap (λ j. d + j) is.1,
        )
    words_at room inside at (and_word w ws) end l h last is =
        let start = blanks_end text at in
        let blanks = blanks_on text at in
        let on = word_on room inside text start w is.0 (word_opens inside text start (blanks_stop text at) is.1) is.2 in
        let more = words_on room inside text is.0 ws end is.3 in
        let here : blanks_end text at ≤ close = omega (arith, on, more, h) in
        let same = blanks_at b n d lo hi close text new c g at l here in (
          d + is.0,
          ap (ends_command inside new) same ∙ command_ends b n d lo hi close text new c g inside start (omega (arith, l, blanks)) here ∙ is.1,
          subst (λ j. SpellsWord room inside new j (moved_word b n w) (d + is.0)) (sym same) (word_at room inside start w is.0 (omega (arith, l, blanks)) (omega (arith, more, h)) is.2),
          words_at room inside is.0 ws end (omega (arith, l, blanks, on)) h last is.3,
        )

    command_at : (room : ℕ) (inside : Bool) (at : ℕ) (k : Command) (end : ℕ) → lo ≤ at → end ≤ close → blanks_end text end ≤ close → SpellsCommand room inside text at k end → SpellsCommand room inside new (d + at) (moved_command b n k) (d + end)
    command_at room inside at (command span ws) end l h last is =
        let on = words_on room inside text at ws end is.1 in
        (span_at span at end l (omega (arith, on, h)) is.0, words_at room inside at ws end l h last is.1)

    commands_at : (room : ℕ) (inside : Bool) (at : ℕ) (ks : Commands) (end : ℕ) → lo ≤ at → gap_end text end ≤ close → SpellsCommands room inside text at ks end → SpellsCommands room inside new (d + at) (moved_commands b n ks) (d + end)
    commands_at room inside at no_commands end l last is =
        let on = gap_on text at in
        let here : gap_end text at ≤ close = subst (λ j. gap_end text j ≤ close) (sym is.1) last in (
          ap (ends_script inside new) (gap_at b n d lo hi close text new c g at l here)
              ∙ script_ends b n d lo hi close text new c g inside (gap_end text at) (omega (arith, l, on)) here ∙ is.0,
          ap (λ j. d + j) is.1,
        )
    commands_at room inside at (and_command k ks) end l last is =
        let start = gap_end text at in
        let gap = gap_on text at in
        let on = command_on room inside text start k is.0 is.2 in
        let next = gap_on text is.0 in
        let more = commands_gap room inside text is.0 ks end is.3 in
        let blanks = blanks_first text is.0 in
        let here : gap_end text at ≤ close = omega (arith, on, next, more, last) in
        let same = gap_at b n d lo hi close text new c g at l here in (
          d + is.0,
          ap (ends_script inside new) same ∙ script_ends b n d lo hi close text new c g inside start (omega (arith, l, gap)) here ∙ is.1,
          subst (λ j. SpellsCommand room inside new j (moved_command b n k) (d + is.0)) (sym same)
              (command_at room inside start k is.0 (omega (arith, l, gap)) (omega (arith, next, more, last)) (omega (arith, blanks, more, last)) is.2),
          commands_at room inside is.0 ks end (omega (arith, l, gap, on)) last is.3,
        )

  pub element_at : (room : ℕ) (e : Closer) (at : ℕ) (span : Span) (name : List ℕ) (index : Parts) (end : ℕ) → lo ≤ at → at ≤ close → end ≤ suc close → SpellsPart room e text at (element span name index) end → SpellsPart room e new (d + at) (moved_part b n (element span name index)) (d + end)
  element_at room e at span name index end l o h is =
      let i = is.4 in
      let named = name_on text (at + 1) in
      element_by room e at span name index end l o h is
      (parts_at i.below Paren (is.0 + 1) index i.close (omega (arith, l, named, is.2.end_is)) (omega (arith, h, i.end_is)) i.inside)

  pub bracket_at : (room : ℕ) (e : Closer) (at : ℕ) (span : Span) (script : Commands) (end : ℕ) → lo ≤ at → at ≤ close → end ≤ suc close → SpellsPart room e text at (bracket span script) end → SpellsPart room e new (d + at) (moved_part b n (bracket span script)) (d + end)
  bracket_at room e at span script end l o h is =
      let i = is.2 in
      let gap = gap_on text i.inside.0 in
      bracket_by room e at span script end l o h is
      (commands_at i.below true (at + 1) script i.inside.0 (omega (arith, l)) (omega (arith, h, gap, i.end_is, i.inside.1)) i.inside.2)
