-- A row as the code has it.
use Rattle.data_groups.specs.Groups.{Row}
use Rattle.config.specs.declared.row.RowTexts.{RowTexts}

abbrev pub row_view : RowTexts → Row
row_view r = (r.key.now, r.value.now)
