use Rattle.std.proofs.Common.{◌≡◌, ◌==◌, ◌&&◌, true, sym, ◌∙◌, ap}
use Rattle.cocoon_num.specs.Lists.{has_number}
use Rattle.numbering.specs.NumberPlaces.{place_of}
use Rattle.p4_ir.specs.Loading.{all_tables, table_numbers}
use Rattle.p4_ir.specs.P4Kinds.{numbers_of}
use Rattle.p4_run.proofs.faults.is_new.Goals as goal

pub returns-then-has : goal.returns-then-has
returns-then-has c = λ p rows h.
    let n = c.args.number in
    let index = c.args.index in
    let known : has_number n (numbers_of (all_tables p)) ≡ true = sym (c.has.ensures (numbers_of (all_tables p)) h.tables) ∙ c.if-has.true in
    let place : c.place.result ≡ place_of (table_numbers rows) n = c.place.ensures.first (table_numbers rows) h.rows in
    ap (λ i. i == index) place ∙ sym (ap (λ b. b && (place_of (table_numbers rows) n == index)) known)
