-- Quotes, braces, variables and brackets as operands, in a stretch of a text that stands in another text too.
use Rattle.std.proofs.Common.{◌≡◌, inl, inr, refl, sym, ap, ap₂, subst, ◌∙◌, ℕ, zero, suc, ◌+◌, ◌-◌, ◌<◌, ◌≤◌}
use Rattle.std.proofs.Common.{List, length, Bool, true, false, cond, nat_lt, arith}
use Rattle.std.specs.Prelude.{◌&&◌, ◌||◌, ◌==◌, slice_range}
use Rattle.tcl_words.specs.Grammar.{SpellsBraces, SpellsVariable, SpellsPart}
use Rattle.tcl_words.specs.Places.{stands, is_letter, letter_stands, names, after_name, opens_name, starts_variable}
use Rattle.tcl_words.specs.Skips.{skip, turns, name_end}
use Rattle.tcl_words.specs.Tree.{Part, plain, variable, element, bracket, Parts, no_parts, and_part, from_to}
use Rattle.tcl_words.specs.declared.places.Closer.TheVariants.{Quote}
use Rattle.tcl_words.proofs.Further.{parts_on, braces_on, commands_on}
use Rattle.tcl_words.proofs.Onward.{skip_onward, name_on, brace_on, gap_on}
use Rattle.tcl_words.proofs.Runs.{skip_stop, skip_more, name_within}
use Rattle.tcl_expr.specs.Grammar.{SpellsQuoted, SpellsBraced, SpellsSubstituted}
use Rattle.tcl_expr.specs.Moved.{moved_span, moved_part, moved_parts}
use Rattle.tcl_expr.proofs.Carried.{skip_none, Carried, closing, name_step}
use Rattle.tcl_expr.proofs.CarriedUnits.{braces_at}
use Rattle.tcl_expr.proofs.MovedWords.{Quotes, quotes_on}
use Rattle.tcl_expr.proofs.CarriedWords.{quotes_by, span_at, parts_at, braced_name_at, element_at, bracket_at}
use Rattle.tcl_expr.proofs.VariableNames.{Ends, both_true, is_below, name_first, name_stop, variable_names}

module _ (b n d lo hi : ℕ) (text new : List ℕ) (c : Carried b n d lo hi text new) where
  below : (k : ℕ) → k < hi → nat_lt (d + k) (length new) ≡ nat_lt k (length text)
  below k h =
      let w = c.within in
      let v = c.within_new in
      is_below (d + k) (length new) (omega (arith, h, v)) ∙ sym (is_below k (length text) (omega (arith, h, w)))

  stands_at : (k x : ℕ) → lo ≤ k → k < hi → stands new (d + k) x ≡ stands text k x
  unfolding stands
  stands_at k x l h = ap₂ (λ u v. u && (v == x)) (below k h) (c.index k l h)

  letter_at : (k : ℕ) → lo ≤ k → k < hi → letter_stands new (d + k) ≡ letter_stands text k
  unfolding letter_stands
  letter_at k l h = ap₂ (λ u v. u && is_letter v) (below k h) (c.index k l h)

  -- a character of a name, or two colons
  name_step_at : (k : ℕ) → lo ≤ k → names text k ≡ true → after_name text k ≤ hi → (names new (d + k) ≡ true) × (after_name new (d + k) ≡ d + after_name text k)
  unfolding names after_name
  name_step_at k l h q = by_letter (letter_stands text k) refl where
    by_letter : (t : Bool) → letter_stands text k ≡ t → (names new (d + k) ≡ true) × (after_name new (d + k) ≡ d + after_name text k)
    by_letter true e =
        let one : after_name text k ≡ k + 1 = ap (λ t. cond t (k + 1) (k + 2)) e in
        let same = letter_at k l (omega (arith, one, q)) ∙ e in
        let next : d + k + 1 ≡ d + (k + 1) = omega arith in (
          ap (λ t. t || (stands new (d + k) 58 && stands new (d + k + 1) 58)) same,
          ap (λ t. cond t (d + k + 1) (d + k + 2)) same ∙ next ∙ ap (λ i. d + i) (sym one),
        )
    by_letter false e =
        let two : after_name text k ≡ k + 2 = ap (λ t. cond t (k + 1) (k + 2)) e in
        let colons : (stands text k 58 && stands text (k + 1) 58) ≡ true = sym (ap (λ t. t || (stands text k 58 && stands text (k + 1) 58)) e) ∙ h in
        let each = both_true (stands text k 58) (stands text (k + 1) 58) colons in
        let same = letter_at k l (omega (arith, two, q)) ∙ e in
        let next : d + k + 1 ≡ d + (k + 1) = omega arith in
        let last : d + k + 2 ≡ d + (k + 2) = omega arith in
        let first = stands_at k 58 l (omega (arith, two, q)) ∙ each.0 in
        let second = ap (λ i. stands new i 58) next ∙ stands_at (k + 1) 58 (omega (arith, l)) (omega (arith, two, q)) ∙ each.1 in (
          ap₂ (λ t u. t || u) same (ap₂ (λ t u. t && u) first second),
          ap (λ t. cond t (d + k + 1) (d + k + 2)) same ∙ last ∙ ap (λ i. d + i) (sym two),
        )

  names_skipped : (m l k last : ℕ) → lo ≤ k → length text < m + k → length new < l + (d + k) → last ≤ hi → skip (names text) (after_name text) m k ≡ last → names new (d + last) ≡ false → skip (names new) (after_name new) l (d + k) ≡ d + last
  names_skipped zero l k last low x y h e quiet =
      let same : k ≡ last = sym (skip_none (names text) (after_name text) k) ∙ e in
      skip_stop (names new) (after_name new) l (d + k) (ap (λ i. names new (d + i)) same ∙ quiet) ∙ ap (λ i. d + i) same
  names_skipped (suc m) l k last low x y h e quiet =
      let o = name_step text k in
      by_test (λ q. names_skipped m (l - 1) (after_name text k) last (omega (arith, low, o)) (omega (arith, x, o)) (omega (arith, y, o)) h q quiet) (names text k) refl where
        by_test : (skip (names text) (after_name text) m (after_name text k) ≡ last → skip (names new) (after_name new) (l - 1) (d + after_name text k) ≡ d + last) → (t : Bool) → names text k ≡ t → skip (names new) (after_name new) l (d + k) ≡ d + last
        by_test again false f =
            let same : k ≡ last = sym (skip_stop (names text) (after_name text) (suc m) k f) ∙ e in
            skip_stop (names new) (after_name new) l (d + k) (ap (λ i. names new (d + i)) same ∙ quiet) ∙ ap (λ i. d + i) same
        by_test again true f =
            let less : suc m - 1 ≡ m = omega arith in
            let more = sym (skip_more (names text) (after_name text) (suc m) k (omega arith) f ∙ ap (λ i. skip (names text) (after_name text) i (after_name text k)) less) ∙ e in
            let on = skip_onward (names text) (after_name text) (λ i. let o = name_step text i in omega (arith, o)) m (after_name text k) in
            let step = name_step_at k low f (omega (arith, on, more, h)) in
            let w = name_within new (d + k) step.0 in
            skip_more (names new) (after_name new) l (d + k) (omega (arith, y, w)) step.0
            ∙ ap (skip (names new) (after_name new) (l - 1)) step.1
            ∙ again more

  name_ends : (k last : ℕ) → lo ≤ k → last ≤ hi → last ≡ name_end text k → names new (d + last) ≡ false → name_end new (d + k) ≡ d + last
  unfolding name_end
  name_ends k last l h e quiet = names_skipped (turns text) (turns new) k last l (omega arith) (omega arith) h (sym e) quiet

  opens_at : (k : ℕ) → lo ≤ k → k + 1 < hi → opens_name new (d + k) ≡ opens_name text k
  unfolding opens_name
  opens_at k l h =
      let next : d + k + 1 ≡ d + (k + 1) = omega arith in
      ap₂ (λ u v. u && v) (stands_at k 36 l (omega (arith, h))) (ap (λ i. stands new i 123) next ∙ stands_at (k + 1) 123 (omega (arith, l)) h)

  starts_by : (k : ℕ) → opens_name new (d + k) ≡ false → stands new (d + k) 36 ≡ true → names new (d + k + 1) ≡ true → starts_variable new (d + k) ≡ true
  unfolding starts_variable
  starts_by k x y z = ap₂ (λ u v. u || v) x (ap₂ (λ u v. u && v) y z)

  variable_top : (at : ℕ) (name : List ℕ) (last : ℕ) → lo ≤ at → last ≤ hi → (names text last ≡ false → stands text last 40 ≡ false → Ends d last new) → SpellsVariable text at name last → SpellsVariable new (d + at) name (d + last)
  variable_top at name last l h ends is =
      let done = ends (ap (names text) is.named.end_is ∙ name_stop text (at + 1)) is.no_index in
      let v = variable_names text at is.named.starts is.named.unbraced in
      let first = name_first text (at + 1) v.1 in
      let step = name_step text (at + 1) in
      let one = name_step_at (at + 1) (omega (arith, l)) v.1 (omega (arith, first, is.named.end_is, h)) in
      let next : d + at + 1 ≡ d + (at + 1) = omega arith in
      let unbraced = opens_at at l (omega (arith, first, step, is.named.end_is, h)) ∙ is.named.unbraced in
      let dollar = stands_at at 36 l (omega (arith, first, step, is.named.end_is, h)) ∙ v.0 in
      record {
        named = record {
          starts = starts_by at unbraced dollar (ap (names new) next ∙ one.0);
          unbraced = unbraced;
          end_is = sym (ap (name_end new) next ∙ name_ends (at + 1) last (omega (arith, l)) h is.named.end_is done.no_name);
          name_is = is.named.name_is ∙ sym (c.cut (at + 1) last (omega (arith, l)) (omega (arith, first, step, is.named.end_is)) h) ∙ ap (λ i. slice_range new i (d + last)) (sym next);
        };
        no_index = done.no_index;
      }

  or_first : (s t : Bool) → s ≡ true → (s || t) ≡ true
  or_first s t h = ap (λ u. u || t) h

  or_second : (s t : Bool) → t ≡ true → (s || t) ≡ true
  or_second true t h = refl
  or_second false t h = h

  braced_starts : (text : List ℕ) (at : ℕ) → opens_name text at ≡ true → starts_variable text at ≡ true
  unfolding starts_variable
  braced_starts text at h = or_first (opens_name text at) (stands text at 36 && names text (at + 1)) h

  pub quoted_at : (room at : ℕ) (ps : Parts) (last : ℕ) → lo ≤ at → last ≤ hi → SpellsQuoted room text at ps last → SpellsQuoted room new (d + at) (moved_parts b n ps) (d + last)
  quoted_at room at ps last l h is =
      let q = is.1 in
      let on = quotes_on q.below text (at + 1) ps q.close q.inside in
      let next : d + (at + 1) ≡ d + at + 1 = omega arith in
      let end : d + (q.close + 1) ≡ d + q.close + 1 = omega arith in
      let start : lo ≤ at + 1 = omega (arith, l) in
      let g = closing hi text q.close 34 (omega (arith, h, q.end_is)) q.is_closed refl refl refl refl refl in (
        stands_at at 34 l (omega (arith, on, h, q.end_is)) ∙ is.0,
        record {
          below = q.below;
          close = d + q.close;
          has_room = q.has_room;
          inside = subst (λ j. Quotes q.below new j (moved_parts b n ps) (d + q.close)) next
              (quotes_by b n d lo hi q.close text new c g q.below (at + 1) ps q.close start (omega arith) (parts_at b n d lo hi q.close text new c g q.below Quote (at + 1) ps q.close start (omega arith)) q.inside);
          is_closed = stands_at q.close 34 (omega (arith, l, on)) (omega (arith, h, q.end_is)) ∙ q.is_closed;
          end_is = ap (λ j. d + j) q.end_is ∙ end;
        },
      )

  pub braced_at : (room at : ℕ) (ps : Parts) (last : ℕ) → lo ≤ at → last ≤ hi → SpellsBraced room text at ps last → SpellsBraced room new (d + at) (moved_parts b n ps) (d + last)
  braced_at room at ps last l h is =
      let q = is.1 in
      let i = q.inside in
      let on = braces_on i.0 q.below text 0 (at + 1) i.1 q.close i.2 in
      let next : d + (at + 1) ≡ d + at + 1 = omega arith in
      let end : d + (q.close + 1) ≡ d + q.close + 1 = omega arith in
      let start : lo ≤ at + 1 = omega (arith, l) in
      let g = closing hi text q.close 125 (omega (arith, h, q.end_is)) q.is_closed refl refl refl refl refl in (
        stands_at at 123 l (omega (arith, on, h, q.end_is)) ∙ is.0,
        record {
          below = q.below;
          close = d + q.close;
          has_room = q.has_room;
          inside = (
            i.0,
            i.1,
            subst (λ j. SpellsBraces i.0 q.below new 0 j i.1 (d + q.close)) next (braces_at b n d lo hi q.close text new c g i.0 q.below 0 (at + 1) i.1 q.close start (omega arith) i.2),
            ap (moved_parts b n) i.3 ∙ ap (λ s. and_part (plain s i.1) no_parts) (span_at b n d lo hi q.close text new c g (from_to (at + 1) q.close) (at + 1) q.close start on refl ∙ ap (λ j. from_to j (d + q.close)) next),
          );
          is_closed = stands_at q.close 125 (omega (arith, l, on)) (omega (arith, h, q.end_is)) ∙ q.is_closed;
          end_is = ap (λ j. d + j) q.end_is ∙ end;
        },
      )

  one_at : (room at : ℕ) (p : Part) (last : ℕ) → lo ≤ at → at < hi → last ≤ hi → (names text last ≡ false → stands text last 40 ≡ false → Ends d last new) → (stands text at 91 || starts_variable text at) ≡ true → SpellsPart room Quote text at p last
      → ((stands new (d + at) 91 || starts_variable new (d + at)) ≡ true) × SpellsPart room Quote new (d + at) (moved_part b n p) (d + last)
  one_at room at (plain span bytes) last l o h ends s is =
      let none : (stands text at 91 || starts_variable text at) ≡ false = ap₂ (λ u v. u || v) is.1 is.2 in absurd (cc)
  one_at room at (variable span name) last l o h ends s (is, inl v) =
      let top = variable_top at name last l h ends v in
      (or_second (stands new (d + at) 91) (starts_variable new (d + at)) top.named.starts, (ap (moved_span b n) is ∙ c.spans at last l o, inl top))
  one_at room at (variable span name) last l o h ends s (is, inr v) =
      let e = v.enclosed in
      let on = brace_on text (at + 2) in
      let g = closing hi text e.close 125 (omega (arith, h, e.end_is)) e.is_closed refl refl refl refl refl in
      let top = braced_name_at b n d lo hi e.close text new c g room at name last l (omega (arith, e.end_is)) v in
      (or_second (stands new (d + at) 91) (starts_variable new (d + at)) (braced_starts new (d + at) top.opens), (ap (moved_span b n) is ∙ c.spans at last l o, inr top))
  one_at room at (element span name index) last l o h ends s is =
      let i = is.4 in
      let named = name_on text (at + 1) in
      let more = parts_on i.below _ text (is.0 + 1) index i.close i.inside in
      let g = closing hi text i.close 41 (omega (arith, h, i.end_is)) i.is_closed refl refl refl refl refl in
      let top = element_at b n d lo hi i.close text new c g room Quote at span name index last l (omega (arith, named, more, is.2.end_is)) (omega (arith, i.end_is)) is in
      (or_second (stands new (d + at) 91) (starts_variable new (d + at)) top.2.starts, top)
  one_at room at (bracket span script) last l o h ends s is =
      let i = is.2 in
      let more = commands_on i.below true text (at + 1) script i.inside.0 i.inside.2 in
      let gap = gap_on text i.inside.0 in
      let g = closing hi text i.close 93 (omega (arith, h, i.end_is)) i.is_closed refl refl refl refl refl in
      let top = bracket_at b n d lo hi i.close text new c g room Quote at span script last l (omega (arith, more, gap, i.inside.1)) (omega (arith, i.end_is)) is in
      (or_first (stands new (d + at) 91) (starts_variable new (d + at)) top.1, top)

  pub substituted_at : (room at : ℕ) (ps : Parts) (last : ℕ) → lo ≤ at → at < hi → last ≤ hi → (names text last ≡ false → stands text last 40 ≡ false → Ends d last new) → SpellsSubstituted room text at ps last → SpellsSubstituted room new (d + at) (moved_parts b n ps) (d + last)
  substituted_at room at no_parts last l o h ends is = absurd is
  substituted_at room at (and_part p (and_part q ps)) last l o h ends is = absurd is
  substituted_at room at (and_part p no_parts) last l o h ends is = one_at room at p last l o h ends is.0 is.1
