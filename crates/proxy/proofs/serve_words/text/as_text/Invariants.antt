use Rattle.std.proofs.Common.{◌≡◌, All, map, take}
use Rattle.std.specs.Prelude.{IsUtf8}
use Rattle.proxy.proofs.serve_words.text.as_text.Given as goal

abbrev pub invariant-loop-word : goal.invariant-loop-word
invariant-loop-word l =
    (map (λ t. t.now) l.texts.items ≡ take l.word-index l.words) × All IsUtf8 (take l.word-index l.words)
