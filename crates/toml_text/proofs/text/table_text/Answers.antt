use Rattle.std.proofs.Common.{◌≡◌, true, string_bytes, sym, ap, subst, ◌∙◌, arith}
use Rattle.std.proofs.lemmas.Grind.{common_steps}
use Rattle.std.proofs.lemmas.Str.{IsUtf8-string_bytes}
use Rattle.toml.specs.View.{table_view}
use Rattle.toml_text.specs.Text.{IsTextOf}
use Rattle.toml_text.proofs.text.table_text.Goals as goal

pub returns-in-Ok : goal.returns-in-Ok
returns-in-Ok c =
    let ms = table_view c.args.table.now in
    let fits : c.table_fits.result ≡ true = grind (arith, common_steps) in
    let same : c.from_vec.result ≡ string_bytes c.in-Ok.text = c.from_vec.ensures ∙ ap (λ v. v.items) c.into_bytes.ensures.value in
    let is : IsTextOf ms (string_bytes c.in-Ok.text) = record {
      written = c.in-Ok.ensures.text;
      utf8 = IsUtf8-string_bytes c.in-Ok.text;
      read_back = c.in-Ok.ensures.reads_back (c.table_fits.ensures fits);
    } in
    subst (IsTextOf ms) (sym same) is
