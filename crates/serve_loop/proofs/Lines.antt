-- What was written of the lines of a turn.
use Rattle.std.proofs.Common.{◌≡◌, ℕ, List, [], ◌++◌, take, drop, Bool, true, false, Option, Some, None, refl, ap, sym, ◌∙◌, append_assoc}
use Rattle.std.proofs.lemmas.List.{append-nil, take-append-drop}
use Rattle.px_outside.specs.Outside.{told_more, AddsPrefix}
use Rattle.serve_loop.specs.declared.journal.Journal.{Journal}
use Rattle.serve_loop.specs.Events.{Tells, kept, Grew, TellsFront}

untold_same : (o : Option (List ℕ)) (s t : List ℕ) → o ≡ None → told_more o s ≡ told_more o t
untold_same None s t none = refl
untold_same (Some x) s t none = cc

-- where nothing waited before, and nothing is kept for a sink that tells nothing
pub told_kept : (b : Bool) (before : Option (List ℕ)) (old more : List ℕ) → old ≡ [] → (b ≡ false → before ≡ None)
    → told_more before (kept b old more) ≡ told_more before more
told_kept true before old more none untold = ap (λ (l : List ℕ). told_more before (l ++ more)) none
told_kept false before old more none untold = untold_same before old more (untold refl)

-- where no line waited before
pub record NoneWaits (j : Journal) (before : Option (List ℕ)) : Type 0 where
  pub none_before : j.text ≡ []
  pub untold : j.recording ≡ false → before ≡ None

pub wrote_all : {j k : Journal} {before after : Option (List ℕ)} (text : List ℕ) → NoneWaits j before → Tells j k text → Grew before after k.text
    → Grew before after text
wrote_all {j} {k} {before} {after} text w told is =
    is ∙ ap (told_more before) told.text ∙ told_kept j.recording before j.text text w.none_before w.untold

pub wrote_ok : {short : Bool} {lines : List ℕ} {j k : Journal} {before after : Option (List ℕ)} → NoneWaits j before → Grew before after k.text
    → TellsFront (Tells j k) short lines → TellsFront (Grew before after) short lines
wrote_ok w is it = record { text = it.text; told = wrote_all it.text w it.told is; front = it.front }

-- where the sink took some of them
record Cut (text : List ℕ) (before after : Option (List ℕ)) : Type 0 where
  some : List ℕ
  rest : List ℕ
  text_is : text ≡ some ++ rest
  told : after ≡ told_more before some

cut_by : (b : Bool) (before after : Option (List ℕ)) (old text bytes : List ℕ) (n : ℕ) → old ≡ [] → (b ≡ false → before ≡ None) → bytes ≡ kept b old text
    → after ≡ told_more before (take n bytes) → Cut text before after
cut_by true before after old text bytes n none untold is wrote = record {
  some = take n text;
  rest = drop n text;
  text_is = sym (take-append-drop n text);
  told = wrote ∙ ap (λ (l : List ℕ). told_more before (take n l)) (is ∙ ap (λ (l : List ℕ). l ++ text) none);
}
cut_by false before after old text bytes n none untold is wrote = record {
  some = text;
  rest = [];
  text_is = sym (append-nil text);
  told = wrote ∙ untold_same before (take n bytes) text (untold refl);
}

pub wrote_err : {short : Bool} {lines : List ℕ} {j k : Journal} {before after : Option (List ℕ)} → NoneWaits j before → AddsPrefix k.text before after
    → TellsFront (Tells j k) short lines → TellsFront (Grew before after) true lines
wrote_err {short} {lines} {j} {k} {before} {after} w some it =
    let cut = cut_by j.recording before after j.text it.text k.text some.taken w.none_before w.untold it.told.text some.written in
    let rest = it.front.missing in
    record {
      text = cut.some;
      told = cut.told;
      front = record {
        missing = cut.rest ++ rest;
        text_is = it.front.text_is ∙ ap (λ (l : List ℕ). l ++ rest) cut.text_is ∙ append_assoc cut.some cut.rest rest;
        whole = λ e. cc;
      };
    }
