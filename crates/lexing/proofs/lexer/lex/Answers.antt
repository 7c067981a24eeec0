use Rattle.std.proofs.Common.{◌≡◌, ◌+◌, ◌≤◌, ◌++◌, ◌∷◌, [], length, map, take, drop, length-drop, sym, subst, arith}
use Rattle.std.proofs.lemmas.List.Elements.{All-push, All-same}
use Rattle.cocoon_num.specs.Tokens.{Token, gap, piece}
use Rattle.lexing.specs.Lexed.{IsSpelled, StandsIn}
use Rattle.lexing.specs.Prefixes.{Fits, first_prefix}
use Rattle.lexing.proofs.Steps.{gap_step, piece_step, token_at, token_is}
use Rattle.lexing.proofs.lexer.lex.Goals as goal

pub loop-at-preserved-in-Gap : goal.loop-at-preserved-in-Gap
loop-at-preserved-in-Gap g c =
    let text = c.args.text.now in
    let at = c.loop-at.at in
    let lexicon = g.L.Lexicon.lexicon in
    let n = c.in-Gap.size in
    let fits : Fits (drop at text) (gap n) = subst (λ bs. Fits bs (gap n)) {y = drop at text} c.rest.ensures c.in-Gap.ensures.fits in
    let first : first_prefix lexicon (drop at text) ≡ gap n = subst (λ bs. first_prefix lexicon bs ≡ gap n) {y = drop at text} c.rest.ensures c.in-Gap.ensures.is in
    record {
      within = omega (arith, length-drop at text, fits.1, c.loop-at-test.true);
      offsets = c.loop-at.invariant.offsets;
      names = c.loop-at.invariant.names;
      rest = gap_step lexicon text at c.loop-at-test.true _ (map (g.L.Lexicon.token_of text) c.loop-at.tokens.items) n fits first c.loop-at.invariant.rest;
    }

pub loop-at-preserved : goal.loop-at-preserved
loop-at-preserved g c =
    let text = c.args.text.now in
    let at = c.loop-at.at in
    let lexicon = g.L.Lexicon.lexicon in
    let n = c.in-Piece.size in
    let kind_in = g.L.Lexicon.kind_of c.in-Piece.kind in
    let meaning = g.L.Lexicon.token_of text in
    let found = c.loop-at.tokens.items in
    let token = c.token.result in
    let fits : Fits (drop at text) (piece (kind_in (take n (drop at text))) n) = subst (λ bs. Fits bs (piece (kind_in (take n bs)) n)) {y = drop at text} c.rest.ensures c.in-Piece.ensures.fits in
    let first : first_prefix lexicon (drop at text) ≡ piece (kind_in (take n (drop at text))) n =
    subst (λ bs. first_prefix lexicon bs ≡ piece (kind_in (take n bs)) n) {y = drop at text} c.rest.ensures c.in-Piece.ensures.is in
    let inside : at + n ≤ length text = omega (arith, length-drop at text, fits.1, c.loop-at-test.true) in
    let is : meaning token ≡ token_at kind_in text at n = token_is kind_in text at n (meaning token) (c.token.ensures.kind text) (c.token.ensures.start text) (c.token.ensures.stop text) in
    let items = c.push.new.self.items in
    let pushed : items ≡ found ++ token ∷ [] = c.in_ok-push-in-Piece.ensures.items in
    let stands : StandsIn text (meaning token) = subst (StandsIn text) (sym is) (omega arith, inside) in
    let spelled : IsSpelled ((meaning token).kind) = subst (λ (t : Token). IsSpelled t.kind) (sym is) fits.2 in
    record {
      within = inside;
      offsets = All-same (λ t. StandsIn text (meaning t)) items (found ++ token ∷ []) pushed (All-push (λ t. StandsIn text (meaning t)) found token c.loop-at.invariant.offsets stands);
      names = All-same (λ t. IsSpelled ((meaning t).kind)) items (found ++ token ∷ []) pushed (All-push (λ t. IsSpelled ((meaning t).kind)) found token c.loop-at.invariant.names spelled);
      rest = piece_step lexicon text at c.loop-at-test.true meaning kind_in n found items token _ fits first is pushed c.loop-at.invariant.rest;
    }
