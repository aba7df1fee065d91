-- Fronts of a text.
use Rattle.std.proofs.Common.{ℕ, List, [], ◌++◌, Bool, true, refl, ap, sym, ◌∙◌, append_assoc}
use Rattle.std.proofs.lemmas.List.{append-nil}
use Rattle.serve_loop.specs.Events.{FrontOf, TellsFront}

pub front_all : (short : Bool) (text : List ℕ) → FrontOf short text text
front_all short text = record { missing = []; text_is = sym (append-nil text); whole = λ e. refl }

pub front_none : (text : List ℕ) → FrontOf true text []
front_none text = record { missing = text; text_is = refl; whole = λ e. cc }

front_after : {short : Bool} {text front : List ℕ} (before : List ℕ) → FrontOf short text front → FrontOf short (before ++ text) (before ++ front)
front_after {short} {text} {front} before it = record {
  missing = it.missing;
  text_is = ap (λ (l : List ℕ). before ++ l) it.text_is ∙ sym (append_assoc before front it.missing);
  whole = it.whole;
}

-- all of them were told
pub tells_whole : {Told : List ℕ → Type 0} (short : Bool) (lines : List ℕ) → Told lines → TellsFront Told short lines
tells_whole short lines told = record { text = lines; told = told; front = front_all short lines }

-- lines that were told before
pub tells_behind : {Told All : List ℕ → Type 0} {short : Bool} {lines : List ℕ} (before : List ℕ)
    → ((text : List ℕ) → Told text → All (before ++ text)) → TellsFront Told short lines → TellsFront All short (before ++ lines)
tells_behind before told it = record { text = before ++ it.text; told = told it.text it.told; front = front_after before it.front }
