-- Words that enter a subcommand of a command line enter it still where there is one more subcommand, at
-- any place.
use Rattle.std.proofs.Common.{◌≡◌, ◌++◌, List, [], ◌∷◌, Option, Some, None, option_map, Bool, true, false, if◌then◌else◌, refl, sym, ap, ◌∙◌}
use Rattle.std.specs.Prelude.{cond, is_some, find, fold, map}
use Rattle.std.specs.Option.{option_map_or}
use Rattle.clap.specs.Faults.{built_fault, check_fault, defaults_fault, entered_fault, level_fault, other_fault, settle_fault, step_fault, stray_fault, turn_fault, walk_fault}
use Rattle.clap.specs.Kinds.{Kinds, or_else}
use Rattle.clap.specs.Simple.{App, Shape, entered, label_of, rows_at}
use Rattle.clap.specs.Walk.{Held, Names, Row, Rule, Step, Text, Waiting, Walk, idle, option, positional, value, after_step, answers_to, finished, nothing_held, settled, subcommand_met, subcommand_or_other, walk, walk_from, walked, walked_from}

both_empty : (a b : Kinds) → or_else a b ≡ [] → (a ≡ []) × (b ≡ [])
both_empty [] b e = (refl, e)
both_empty (k ∷ ks) b e = cc

-- ---- one word

-- what a word is, by the subcommand that it names
abbrev met_by : List Rule → (trailing : Bool) → Waiting → Walk → Text → Option Text → Held × Step
met_by c trailing waiting w word name = if trailing then (w.held, value) else subcommand_or_other c name waiting w.position word w.held

-- where the walk goes
abbrev walked_by : List Rule → Option (Text × List Text) → (trailing : Bool) → Waiting → Walk → Text → Option Text → Walk
walked_by c (Some p) trailing waiting w word name = record w { stopped = Some (p.0, p.1 ++ word ∷ []) }
walked_by c None trailing waiting w word name = after_step c word w (met_by c trailing waiting w word name).0 (met_by c trailing waiting w word name).1

-- the fault of a word before the walk stops
abbrev word_fault_by : Shape → (trailing : Bool) → Waiting → Walk → Text → Option Text → Kinds
word_fault_by t trailing waiting w word name =
    or_else (if trailing then [] else other_fault t name word w.held)
    (step_fault t w.position (met_by t.rules trailing waiting w word name).0 (met_by t.rules trailing waiting w word name).1)

abbrev fault_by : Shape → Option (Text × List Text) → (trailing : Bool) → Waiting → Walk → Text → Option Text → Kinds
fault_by t stopped trailing waiting w word name = if is_some stopped then [] else word_fault_by t trailing waiting w word name

walked_is : (c : List Rule) (names : Names) (w : Walk) (word : Text) → walked c names w word ≡ walked_by c w.stopped w.is_trailing w.waiting w word (subcommand_met names w.waiting word)
unfolding walked
walked_is c names w word = from w.stopped
  where
    from : (stopped : Option (Text × List Text)) → walked_from c names stopped w word ≡ walked_by c stopped w.is_trailing w.waiting w word (subcommand_met names w.waiting word)
    from (Some p) = refl
    from None = refl

fault_is : (t : Shape) (names : Names) (w : Walk) (word : Text) → turn_fault t names w word ≡ fault_by t w.stopped w.is_trailing w.waiting w word (subcommand_met names w.waiting word)
fault_is t names w word = refl

-- a word that is walked alike by two lists of names, and has no fault
record Same (t : Shape) (old new : Names) (w : Walk) (word : Text) : Type 0 where
  pub walk : walked t.rules new w word ≡ walked t.rules old w word
  pub fault : turn_fault t new w word ≡ []

-- the word names the same
met_alike : (t : Shape) (old new : Names) (w : Walk) (word : Text) → subcommand_met new w.waiting word ≡ subcommand_met old w.waiting word → turn_fault t old w word ≡ [] → Same t old new w word
met_alike t old new w word e f = record {
  walk = walked_is t.rules new w word ∙ ap (walked_by t.rules w.stopped w.is_trailing w.waiting w word) e ∙ sym (walked_is t.rules old w word);
  fault = ap (fault_by t w.stopped w.is_trailing w.waiting w word) e ∙ f;
}

-- the walk stopped before
stopped_alike : (t : Shape) (old new : Names) (w : Walk) (word : Text) (p : Text × List Text) → w.stopped ≡ Some p → Same t old new w word
stopped_alike t old new w word p e = record {
  walk =
      walked_is t.rules new w word
      ∙ ap (λ s. walked_by t.rules s w.is_trailing w.waiting w word (subcommand_met new w.waiting word)) e
      ∙ sym (ap (λ s. walked_by t.rules s w.is_trailing w.waiting w word (subcommand_met old w.waiting word)) e)
      ∙ sym (walked_is t.rules old w word);
  fault = ap (λ s. fault_by t s w.is_trailing w.waiting w word (subcommand_met new w.waiting word)) e;
}

-- the word stands behind `--`
trailing_alike : (t : Shape) (old new : Names) (w : Walk) (word : Text) → w.is_trailing ≡ true → turn_fault t old w word ≡ [] → Same t old new w word
trailing_alike t old new w word e f =
    let m = subcommand_met new w.waiting word in
    let n = subcommand_met old w.waiting word in
    record {
      walk =
          walked_is t.rules new w word
          ∙ ap (λ b. walked_by t.rules w.stopped b w.waiting w word m) e
          ∙ any_name w.stopped m n
          ∙ sym (ap (λ b. walked_by t.rules w.stopped b w.waiting w word n) e)
          ∙ sym (walked_is t.rules old w word);
      fault = ap (λ b. fault_by t w.stopped b w.waiting w word m) e ∙ sym (ap (λ b. fault_by t w.stopped b w.waiting w word n) e) ∙ f;
    }
  where
    any_name : (s : Option (Text × List Text)) (m n : Option Text) → walked_by t.rules s true w.waiting w word m ≡ walked_by t.rules s true w.waiting w word n
    any_name (Some p) m n = refl
    any_name None m n = refl

-- ---- one more name

-- The shapes of a command line and of its subcommands: those before one that is new, that, and those behind it.
pub record Grows (t : Shape) (cs : List Shape) (s : Shape) (ds : List Shape) : Type 0 where
  pub word : Text
  pub answers : (x : Text) → answers_to x (label_of s) ≡ true → x ≡ word
  pub unknown : find (answers_to word) (map label_of (cs ++ ds)) ≡ None
  pub plain : (w : Walk) → word_fault_by t false idle w word None ≡ stray_fault t

-- a word that nothing takes is at fault
stray : (t : Shape) → stray_fault t ≡ [] → ⊥
stray t e = leaf t.is_leaf refl
  where
    leaf : (b : Bool) → t.is_leaf ≡ b → ⊥
    leaf true f = let g : stray_fault t ≡ [] = e in cc
    leaf false f = let g : stray_fault t ≡ [] = e in cc

abbrev before : List Shape → List Shape → Names
before cs ds = map label_of (cs ++ ds)

abbrev after : List Shape → Shape → List Shape → Names
after cs s ds = map label_of (cs ++ s ∷ ds)

-- what is not looked for is passed over
passes : {A B : Type 0} (f : B → Bool) (g : A → B) (cs : List A) (s : A) (rest : List A) → f (g s) ≡ false → find f (map g (cs ++ s ∷ rest)) ≡ find f (map g (cs ++ rest))
passes f g [] s rest e = ap (λ b. cond b (Some (g s)) (find f (map g rest))) e
passes f g (c ∷ cs) s rest e = ap (cond (f (g c)) (Some (g c))) (passes f g cs s rest e)

-- where nothing waits for a value
idle_alike : (t : Shape) (cs : List Shape) (s : Shape) (ds : List Shape) → Grows t cs s ds → (w : Walk) (word : Text) (b : Bool) → answers_to word (label_of s) ≡ b → w.stopped ≡ None → w.is_trailing ≡ false → w.waiting ≡ idle
    → turn_fault t (before cs ds) w word ≡ [] → Same t (before cs ds) (after cs s ds) w word
idle_alike t cs s ds g w word true e p q r f =
    let is : word ≡ g.word = g.answers word e in
    let none : subcommand_met (before cs ds) w.waiting word ≡ None =
    ap (λ x. subcommand_met (before cs ds) x word) r ∙ ap (λ x. subcommand_met (before cs ds) idle x) is ∙ ap (option_map (λ (l : Text × List Text). l.0)) g.unknown in
    let here : turn_fault t (before cs ds) w word ≡ word_fault_by t false idle w g.word None =
    ap (fault_by t w.stopped w.is_trailing w.waiting w word) none
    ∙ ap (λ x. fault_by t x w.is_trailing w.waiting w word None) p
    ∙ ap (λ x. word_fault_by t x w.waiting w word None) q
    ∙ ap (λ x. word_fault_by t false x w word None) r
    ∙ ap (λ x. word_fault_by t false idle w x None) is in
    absurd (stray t (sym (g.plain w) ∙ sym here ∙ f))
idle_alike t cs s ds g w word false e p q r f =
    let label = λ (l : Text × List Text). l.0 in
    met_alike t (before cs ds) (after cs s ds) w word
    (ap (λ x. subcommand_met (after cs s ds) x word) r
    ∙ ap (option_map label) (passes (answers_to word) label_of cs s ds e)
    ∙ sym (ap (λ x. subcommand_met (before cs ds) x word) r)) f

word_alike : (t : Shape) (cs : List Shape) (s : Shape) (ds : List Shape) → Grows t cs s ds → (w : Walk) (word : Text) (stopped : Option (Text × List Text)) (trailing : Bool) (waiting : Waiting)
    → w.stopped ≡ stopped → w.is_trailing ≡ trailing → w.waiting ≡ waiting → turn_fault t (before cs ds) w word ≡ [] → Same t (before cs ds) (after cs s ds) w word
word_alike t cs s ds g w word (Some p) trailing waiting e q r f = stopped_alike t (before cs ds) (after cs s ds) w word p e
word_alike t cs s ds g w word None true waiting e q r f = trailing_alike t (before cs ds) (after cs s ds) w word q f
word_alike t cs s ds g w word None false idle e q r f = idle_alike t cs s ds g w word (answers_to word (label_of s)) refl e q r f
word_alike t cs s ds g w word None false (option id) e q r f =
    met_alike t (before cs ds) (after cs s ds) w word (ap (λ x. subcommand_met (after cs s ds) x word) r ∙ sym (ap (λ x. subcommand_met (before cs ds) x word) r)) f
word_alike t cs s ds g w word None false positional e q r f =
    met_alike t (before cs ds) (after cs s ds) w word (ap (λ x. subcommand_met (after cs s ds) x word) r ∙ sym (ap (λ x. subcommand_met (before cs ds) x word) r)) f

-- ---- all words

walks_alike : (t : Shape) (cs : List Shape) (s : Shape) (ds : List Shape) → Grows t cs s ds → (words : List Text) (w : Walk) → walk_fault t (before cs ds) w words ≡ []
    → (fold (walked t.rules (after cs s ds)) w words ≡ fold (walked t.rules (before cs ds)) w words) × (walk_fault t (after cs s ds) w words ≡ [])
unfolding walk_fault
walks_alike t cs s ds g [] w f = (refl, refl)
walks_alike t cs s ds g (word ∷ words) w f =
    let parts = both_empty (turn_fault t (before cs ds) w word) (walk_fault t (before cs ds) (walked t.rules (before cs ds) w word) words) f in
    let same = word_alike t cs s ds g w word w.stopped w.is_trailing w.waiting refl refl refl parts.0 in
    let rest = walks_alike t cs s ds g words (walked t.rules (before cs ds) w word) parts.1 in (
      ap (λ x. fold (walked t.rules (after cs s ds)) x words) same.walk ∙ rest.0,
      ap (λ k. or_else k (walk_fault t (after cs s ds) (walked t.rules (after cs s ds) w word) words)) same.fault
          ∙ ap (λ x. walk_fault t (after cs s ds) x words) same.walk ∙ rest.1,
    )

-- ---- the subcommand

abbrev pub old_app : Shape → List Shape → List Shape → App
old_app t cs ds = record { top = t; subs = cs ++ ds }

abbrev pub new_app : Shape → List Shape → Shape → List Shape → App
new_app t cs s ds = record { top = t; subs = cs ++ s ∷ ds }

abbrev found : List Text → Option Shape → Option (Text × List Row)
found words shape = option_map (λ s. rows_at s words) shape

abbrev fault_in : List Text → Option Shape → Kinds
fault_in words shape = option_map_or (λ s. level_fault s [] nothing_held words false []) shape []

abbrev answering : Text → Shape → Bool
answering word x = answers_to word (label_of x)

-- a shape that does not answer is passed over
passed : (word : Text) (cs : List Shape) (s : Shape) (ds : List Shape) → answering word s ≡ false → find (answering word) (cs ++ s ∷ ds) ≡ find (answering word) (cs ++ ds)
passed word [] s ds e = ap (λ b. cond b (Some s) (find (answering word) ds)) e
passed word (c ∷ cs) s ds e = ap (cond (answering word c) (Some c)) (passed word cs s ds e)

-- no shape answers where no label does
none_by : (word : Text) (c : Shape) (b : Bool) (labels : Option (Text × List Text)) (shapes : Option Shape) → (labels ≡ None → shapes ≡ None) → cond b (Some (label_of c)) labels ≡ None
    → cond b (Some c) shapes ≡ None
none_by word c true labels shapes f e = cc
none_by word c false labels shapes f e = f e

none_answers : (word : Text) (cs : List Shape) → find (answers_to word) (map label_of cs) ≡ None → find (answering word) cs ≡ None
none_answers word [] e = refl
none_answers word (c ∷ cs) e = none_by word c (answering word c) (find (answers_to word) (map label_of cs)) (find (answering word) cs) (none_answers word cs) e

-- a subcommand that was met is met still
same_met : (t : Shape) (cs : List Shape) (s : Shape) (ds : List Shape) → Grows t cs s ds → (p : Text × List Text) (met : Text × List Row) (b : Bool) → answering p.0 s ≡ b
    → found p.1 (find (answering p.0) (cs ++ ds)) ≡ Some met → find (answering p.0) (cs ++ s ∷ ds) ≡ find (answering p.0) (cs ++ ds)
same_met t cs s ds g p met true e f =
    let none : find (answering p.0) (cs ++ ds) ≡ None = ap (λ x. find (answering x) (cs ++ ds)) (g.answers p.0 e) ∙ none_answers g.word (cs ++ ds) g.unknown in
    let met : None ≡ Some met = sym (ap (found p.1) none) ∙ f in
    cc
same_met t cs s ds g p met false e f = passed p.0 cs s ds e

enters : (t : Shape) (cs : List Shape) (s : Shape) (ds : List Shape) → Grows t cs s ds → (stop : Option (Text × List Text)) (met : Text × List Row)
    → entered (old_app t cs ds) stop ≡ Some met
    → (entered (new_app t cs s ds) stop ≡ entered (old_app t cs ds) stop) × (entered_fault (new_app t cs s ds) stop ≡ entered_fault (old_app t cs ds) stop)
enters t cs s ds g None met f = (refl, refl)
enters t cs s ds g (Some p) met f =
    let same = same_met t cs s ds g p met (answering p.0 s) refl f in (ap (found p.1) same, ap (fault_in p.1) same)

-- ---- whole words

-- the faults behind those of the walk
abbrev later : Shape → Held → Bool → Kinds → Kinds
later t end has below =
    or_else below (or_else (settle_fault t.rules t.args_override_self end)
    (or_else (defaults_fault (settled t.rules end).rows t.rules) (check_fault t (finished t.rules end) has)))

abbrev later_in : App → Walk → Kinds
later_in a w = later a.top w.held (is_some (entered a w.stopped)) (entered_fault a w.stopped)

-- words that a command line takes are taken still, with the same matches
pub stays : (t : Shape) (cs : List Shape) (s : Shape) (ds : List Shape) → Grows t cs s ds → (words : List Text) (met : Text × List Row)
    → built_fault (old_app t cs ds) nothing_held words ≡ [] → entered (old_app t cs ds) (walk t.rules (before cs ds) nothing_held words).stopped ≡ Some met
    → (built_fault (new_app t cs s ds) nothing_held words ≡ []) × (entered (new_app t cs s ds) (walk t.rules (after cs s ds) nothing_held words).stopped ≡ Some met)
stays t cs s ds g words met f e =
    let w = walk t.rules (before cs ds) nothing_held words in
    let v = walk t.rules (after cs s ds) nothing_held words in
    let parts = both_empty (walk_fault t (before cs ds) (walk_from nothing_held) words) (later_in (old_app t cs ds) w) f in
    let same = walks_alike t cs s ds g words (walk_from nothing_held) parts.0 in
    let sub = enters t cs s ds g w.stopped met e in (
      ap (λ x. or_else x (later_in (new_app t cs s ds) v)) same.1
          ∙ ap (later_in (new_app t cs s ds)) same.0
          ∙ ap (λ x. later t w.held (is_some x) (entered_fault (new_app t cs s ds) w.stopped)) sub.0
          ∙ ap (λ x. later t w.held (is_some (entered (old_app t cs ds) w.stopped)) x) sub.1
          ∙ parts.1,
      ap (λ (x : Walk). entered (new_app t cs s ds) x.stopped) same.0 ∙ sub.0 ∙ e,
    )
