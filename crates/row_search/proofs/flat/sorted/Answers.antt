use Rattle.std.proofs.Common.{length, map, ap, ◌∙◌}
use Rattle.std.specs.Prelude.{unwrap_or}
use Rattle.p4_ir.specs.NetOf.{key_row_of}
use Rattle.row_search.specs.Laid.{masked, masked_values, results_of}
use Rattle.row_search.specs.Pairs.{found, pairs_of}
use Rattle.row_search.proofs.ScanFacts.{found_is}
use Rattle.row_search.proofs.flat.sorted.Goals as goal

pub returns : goal.returns
returns c = λ default.
    let s = c.in_ok-new.field-0 in
    let ms = c.args.masks.now in
    let rows = map key_row_of c.args.rows.now in
    record {
      many = ap length c.in_ok-new.ensures.masks;
      answers = λ xs l.
          ap (λ o. unwrap_or o default) (c.in_ok-new.ensures.found (masked s.masks.items xs))
          ∙ ap (λ ns. unwrap_or (found (pairs_of (length ms) (masked_values ms rows) (results_of rows)) (masked ns xs)) default) c.in_ok-new.ensures.masks
          ∙ found_is ms c.args.rows.now default xs c.requires.rows c.requires.masks l;
    }
