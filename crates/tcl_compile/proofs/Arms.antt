-- The words of an `if`, an arm at a time, and those of a `foreach`.
use Rattle.std.proofs.Common.{◌≡◌, List, [], ◌∷◌, ◌++◌, map, Option, Some, None, refl, sym, ap, ◌∙◌}
use Rattle.std.specs.Prelude.{option_map}
use Rattle.std.proofs.lemmas.List.{append_assoc, map-append}
use Rattle.tcl_words.specs.Tree.{Word}
use Rattle.tcl_words.specs.View.{word_view}
use Rattle.tcl_words.specs.declared.script.Word as code
use Rattle.tcl_trees.specs.Forms.{Conditional, with_arm, branches_in, behind_body, last_apart}
use Rattle.tcl_compile.specs.IfView.{arm_view, arms_view, behind_arms}
use Rattle.tcl_compile.specs.declared.if_form.Arm.{Arm}

pub no_arms : (form : Option Conditional) → form ≡ option_map (behind_arms []) form
no_arms None = refl
no_arms (Some f) = refl

one_more : (arms : List (Word × Word)) (a : Word × Word) (form : Option Conditional)
    → option_map (behind_arms arms) (option_map (with_arm a.0 a.1) form)
    ≡ option_map (behind_arms (arms ++ a ∷ [])) form
one_more arms a None = refl
one_more arms a (Some f) =
    ap (λ l. Some (record { arms = l; last = f.last })) (sym (append_assoc arms (a ∷ []) f.arms))

pub arm_turn : (all : Option Conditional) (arms new : List Arm) (a : Arm) (left behind : List Word)
    → all ≡ option_map (behind_arms (arms_view arms)) (branches_in left)
    → branches_in left ≡ option_map (with_arm (word_view a.condition.now) (word_view a.body.now)) (behind_body behind)
    → new ≡ arms ++ a ∷ [] → all ≡ option_map (behind_arms (arms_view new)) (behind_body behind)
arm_turn all arms new a left behind so first pushed =
    so ∙ ap (option_map (behind_arms (arms_view arms))) first
    ∙ one_more (arms_view arms) (arm_view a) (behind_body behind)
    ∙ ap (λ l. option_map (behind_arms l) (behind_body behind))
    (sym (map-append arm_view arms (a ∷ [])) ∙ ap arms_view (sym pushed))

apart : (front : List Word) (w : Word) → last_apart (front ++ w ∷ []) ≡ Some (front, w)
apart [] w = refl
apart (a ∷ []) w = refl
apart (a ∷ b ∷ front) w = ap (option_map (λ r. (a ∷ r.0, r.1))) (apart (b ∷ front) w)

pub apart_viewed : (ws front : List code.Word) (w : code.Word) → ws ≡ front ++ w ∷ []
    → Some (map word_view front, word_view w) ≡ last_apart (map word_view ws)
apart_viewed ws front w e =
    sym (ap (λ l. last_apart (map word_view l)) e ∙ ap last_apart (map-append word_view front (w ∷ []))
    ∙ apart (map word_view front) (word_view w))
