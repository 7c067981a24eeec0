use Rattle.std.proofs.Common.{subst, ◌++◌, ◌∷◌, []}
use Rattle.cocoon_syntax.specs.TreeOf.{function_of}
use Rattle.numbering.specs.NameNumbers.{Numbers}
use Rattle.declarations.proofs.TableFacts.{functions-more}
use Rattle.declarations.proofs.function_table.FunctionTable.append.Goals as goal

pub returns : goal.returns
returns c = λ placed h. functions-more c.args.self.now (record { names = c.append.new.self; places = c.push.new.self }) placed c.args.place (function_of c.args.function.now) h
    (λ ns k. subst (λ x. Numbers c.append.new.self (ns ++ x ∷ [])) c.bytes.ensures (c.in_ok-append.ensures ns k)) c.in_ok-push.ensures.items
