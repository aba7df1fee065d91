-- A target of visible characters of ASCII.
use Rattle.std.proofs.Common.{◌≡◌, ℕ, ◌<◌, true, List, arith}
use Rattle.std.specs.Char.{is_ascii_graphic}
use Rattle.std.specs.List.{list_all}
use Rattle.std.proofs.lemmas.Bool.{and_parts, ltb-true}
use Rattle.std.proofs.lemmas.Bool.Decides.{nat_tests}
use Rattle.std.proofs.lemmas.List.Elements.{All-weaker}
use Rattle.std.proofs.lemmas.Str.{IsUtf8-from_ascii}
use Rattle.std.proofs.lemmas.Str.Ascii.{IsAscii-from_all}
use Rattle.httparse.specs.Grammar.{is_uri_byte}
use Rattle.http_heads.specs.Lines.{IsTarget, is_visible_target}
use Rattle.http_heads.proofs.ReadFields.{pass_of}

pub is_target : (text : List ℕ) → is_visible_target text ≡ true → IsTarget text
is_target text visible =
    let parts = and_parts _ (list_all is_ascii_graphic text) visible in
    let graphic = pass_of is_ascii_graphic text parts.1 in
    record {
      some = ltb-true _ _ parts.0;
      visible = All-weaker (λ b. is_ascii_graphic b ≡ true) (λ b. is_uri_byte b ≡ true) (λ b is. grind (arith, nat_tests)) text graphic;
      characters = IsUtf8-from_ascii text (IsAscii-from_all text (All-weaker (λ b. is_ascii_graphic b ≡ true) (λ b. b < 128) (λ b is. grind (arith, nat_tests)) text graphic));
    }
