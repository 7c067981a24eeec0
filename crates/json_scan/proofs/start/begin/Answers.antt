use Rattle.std.proofs.Common.{◌≡◌, suc, ◌-◌, [], ◌∷◌, sym, ap, ap₂, ◌∙◌, refl, arith}
use Rattle.json.specs.Token.{Token}
use Rattle.json.specs.Reads.{token_of}
use Rattle.json.proofs.Grammar.{value_is}
use Rattle.serde_json.specs.Data.{null, boolean, string}
use Rattle.serde_json.specs.Read.{converted, of_json}
use Rattle.json_scan.specs.Numbers.{num_of}
use Rattle.json_scan.specs.Scanning.{read_value}
use Rattle.json_scan.proofs.Parts.{at_string, at_boolean, at_null, at_number, at_no_number, at_end, too_deep_array, too_deep_object}
use Rattle.json_scan.proofs.start.begin.Goals as goal

pub returns-in_default-clause-err : goal.returns-in_default-clause-err
returns-in_default-clause-err c never =
    let empty : c.args.reader.now ≡ [] = grind arith in
    ap (read_value c.args.depth) empty ∙ at_end c.args.depth

pub returns-else-depth-eq0-clause-ok : goal.returns-else-depth-eq0-clause-ok
returns-else-depth-eq0-clause-ok c =
    let first : c.args.reader.now ≡ token_of c.in-Some.token ∷ c.next.new.self = grind arith in
    let deep : c.args.depth ≡ suc (c.args.depth - 1) = omega arith in
    (deep, first ∙ ap (λ k. token_of k ∷ c.next.new.self) c.in-BeginArray.is)

pub returns-else-depth-eq0-2-clause-ok : goal.returns-else-depth-eq0-2-clause-ok
returns-else-depth-eq0-2-clause-ok c =
    let first : c.args.reader.now ≡ token_of c.in-Some.token ∷ c.next.new.self = grind arith in
    let deep : c.args.depth ≡ suc (c.args.depth - 1) = omega arith in
    (deep, first ∙ ap (λ k. token_of k ∷ c.next.new.self) c.in-BeginObject.is)

pub returns-then-depth-eq0-clause-err : goal.returns-then-depth-eq0-clause-err
returns-then-depth-eq0-clause-err c never =
    let first : c.args.reader.now ≡ token_of c.in-Some.token ∷ c.next.new.self = grind arith in
    let none : c.args.depth ≡ 0 = omega arith in
    ap₂ read_value none (first ∙ ap (λ k. token_of k ∷ c.next.new.self) c.in-BeginArray.is) ∙ too_deep_array c.next.new.self

pub returns-then-depth-eq0-2-clause-err : goal.returns-then-depth-eq0-2-clause-err
returns-then-depth-eq0-2-clause-err c never =
    let first : c.args.reader.now ≡ token_of c.in-Some.token ∷ c.next.new.self = grind arith in
    let none : c.args.depth ≡ 0 = omega arith in
    ap₂ read_value none (first ∙ ap (λ k. token_of k ∷ c.next.new.self) c.in-BeginObject.is) ∙ too_deep_object c.next.new.self

pub returns-in-Some-number-clause-ok : goal.returns-in-Some-number-clause-ok
returns-in-Some-number-clause-ok c =
    let first : c.args.reader.now ≡ token_of c.in-Some.token ∷ c.next.new.self = grind arith in
    let is : c.args.reader.now ≡ Token.number c.in-Number.text.now ∷ c.next.new.self = grind (arith, first) in
    ap (read_value c.args.depth) is ∙ at_number c.args.depth c.in-Number.text.now c.next.new.self (num_of c.in-Some-number.number) (sym c.in-Some-number.ensures)

pub returns-in-None-clause-err : goal.returns-in-None-clause-err
returns-in-None-clause-err c never =
    let first : c.args.reader.now ≡ token_of c.in-Some.token ∷ c.next.new.self = grind arith in
    let is : c.args.reader.now ≡ Token.number c.in-Number.text.now ∷ c.next.new.self = grind (arith, first) in
    ap (read_value c.args.depth) is ∙ at_no_number c.args.depth c.in-Number.text.now c.next.new.self (sym c.in-None.ensures)

pub returns-in-String-clause-ok : goal.returns-in-String-clause-ok
returns-in-String-clause-ok c =
    let first : c.args.reader.now ≡ token_of c.in-Some.token ∷ c.next.new.self = grind arith in
    let text = c.in-String.field-0.now in
    let is : c.args.reader.now ≡ Token.string text ∷ c.next.new.self = grind (arith, first) in
    (string text, ap (read_value c.args.depth) is ∙ at_string c.args.depth text c.next.new.self, (refl, refl, refl))

pub returns-in-Bool-clause-ok : goal.returns-in-Bool-clause-ok
returns-in-Bool-clause-ok c =
    let first : c.args.reader.now ≡ token_of c.in-Some.token ∷ c.next.new.self = grind arith in
    let truth = c.in-Bool.field-0 in
    let is : c.args.reader.now ≡ Token.boolean truth ∷ c.next.new.self = grind (arith, first) in
    (boolean truth, ap (read_value c.args.depth) is ∙ at_boolean c.args.depth truth c.next.new.self, (refl, refl, refl))

pub returns-in-Null-clause-ok : goal.returns-in-Null-clause-ok
returns-in-Null-clause-ok c =
    let first : c.args.reader.now ≡ token_of c.in-Some.token ∷ c.next.new.self = grind arith in
    let is : c.args.reader.now ≡ Token.null ∷ c.next.new.self = grind (arith, first) in
    (null, ap (read_value c.args.depth) is ∙ at_null c.args.depth c.next.new.self, (refl, refl, refl))

pub returns-in-EndArray-clause-err : goal.returns-in-EndArray-clause-err
returns-in-EndArray-clause-err c never =
    let first : c.args.reader.now ≡ token_of c.in-Some.token ∷ c.next.new.self = grind arith in
    rw first (ap (converted of_json) (value_is c.args.depth (token_of c.in-Some.token ∷ c.next.new.self)) ∙ grind arith)
