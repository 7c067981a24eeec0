use Rattle.std.proofs.Common.{arith, ◌<◌, ◌+◌, length, IfSome, subst, sym}
use Rattle.std.proofs.lemmas.List.{length-take-le}
use Rattle.parsing.proofs.whole_text.up_to.Goals as goal

pub overflow_add-result : goal.overflow_add-result
overflow_add-result g c = let h : c.in-Some.at < length c.args.tokens.now = subst (λ deep. IfSome deep (λ d. d < length c.args.tokens.now)) c.in-Some.is c.requires.within in omega arith

pub slice_bounds-result-end : goal.slice_bounds-result-end
slice_bounds-result-end g c = let h : c.in-Some.at < length c.args.tokens.now = subst (λ deep. IfSome deep (λ d. d < length c.args.tokens.now)) c.in-Some.is c.requires.within in sym (length-take-le (c.in-Some.at + 1) c.args.tokens.now (omega arith))
