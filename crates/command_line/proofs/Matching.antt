-- What `clap` says of words, as the definition of commands has it.
use Rattle.std.proofs.Common.{◌≡◌, ◌≢◌, ◌∙◌, ◌||◌, ℕ, ◌+◌, ◌<◌, length, drop, map, slice_index_or, Bor, List, [], ◌∷◌, Option, Some, None, option_map, option_and_then, Bool, true, false, if◌then◌else◌, refl, sym, ap, subst, inl, inr}
use Rattle.std.proofs.lemmas.List.{at_drop_more}
use Rattle.clap.specs.Words.{App, HasKind, HasMatchesOf, IsAmong, Kinds, Row, Rule, Text, fault_of, first_value, found_of, is_simple, is_simple_and_free, kind_of, rows_of, subcommand_name_of, subcommand_of, subcommand_rows_of, new_rule, rule_of, with_rule}
use Rattle.clap.specs.declared.builder.Arg.{Arg}
use Rattle.clap.specs.declared.builder.ArgAction.TheVariants.{Set}
use Rattle.clap.specs.declared.error.Error.{Error}
use Rattle.clap.specs.declared.error.ErrorKind.{ErrorKind}
use Rattle.clap.specs.declared.error.ErrorKind.TheVariants.{OutOfMemory}
use Rattle.clap.specs.declared.parser.ArgMatches.{ArgMatches}
use Rattle.clap.proofs.WalkLemmas.{first_value-rows}
use Rattle.command_line.specs.Names.{is_file_name}
use Rattle.command_line.specs.Arguments.{argument_name, word_name}
use Rattle.command_line.specs.Subcommands.{cocoon_app}
use Rattle.command_line.specs.Syntax.{required_argument, with_arguments}
use Rattle.command_line.specs.Words.{subcommand, subcommand_by, unless_refused}

-- ---- the command line

-- an argument that was made required, with one value
pub rule_required : (a b c : Arg) (id : Text) → rule_of a ≡ new_rule id → b ≡ record a { required = true } → c ≡ record b { action = Some Set } → rule_of c ≡ required_argument id
rule_required a b c id r p q =
    ap rule_of q
    ∙ ap (λ (x : Arg). rule_of (record x { action = Some Set })) p
    ∙ ap (λ (x : Rule). record x { required = true; action = Some Set }) r

pub stays_local : (a b c : Arg) → a.global ≡ false → b ≡ record a { required = true } → c ≡ record b { action = Some Set } → c.global ≡ false
stays_local a b c h p q = ap (λ (x : Arg). x.global) q ∙ ap (λ (x : Arg). x.global) p ∙ h

-- an argument that was made an option, with one value
pub rule_option : (a b c : Arg) (id : Text) (name : Bor Text) → rule_of a ≡ new_rule id → b ≡ record a { long = Some name } → c ≡ record b { action = Some Set } → rule_of c ≡ record (new_rule id) { long = Some name.now; action = Some Set }
rule_option a b c id name r p q =
    ap rule_of q
    ∙ ap (λ (x : Arg). rule_of (record x { action = Some Set })) p
    ∙ ap (λ (x : Rule). record x { long = Some name.now; action = Some Set }) r

pub option_local : (a b c : Arg) (name : Bor Text) → a.global ≡ false → b ≡ record a { long = Some name } → c ≡ record b { action = Some Set } → c.global ≡ false
option_local a b c name h p q = ap (λ (x : Arg). x.global) q ∙ ap (λ (x : Arg). x.global) p ∙ h

or_false : (b : Bool) → (b || false) ≡ b
or_false true = refl
or_false false = refl

-- one more name
pub argument_added : (app next : App) (added : Rule) (ids : List (Bor Text)) (i : ℕ) (d : Bor Text) → i < length ids
    → added ≡ required_argument (slice_index_or ids i d).now → next ≡ with_rule app added
    → with_arguments next (map (λ id. id.now) (drop (i + 1) ids)) ≡ with_arguments app (map (λ id. id.now) (drop i ids))
argument_added app next added ids i d h p q =
    ap (λ a. with_arguments a (map (λ id. id.now) (drop (i + 1) ids))) (q ∙ ap (with_rule app) p)
    ∙ sym (at_drop_more (λ rest. with_arguments app (map (λ id. id.now) rest)) ids i d h)

-- a command that gets an argument that is not global
pub still_local : (before after global : Bool) → after ≡ (before || global) → global ≡ false → after ≡ before
still_local before after false e h = e ∙ or_false before
still_local before after true e h = cc

-- ---- whole words

is_checked : is_simple_and_free cocoon_app ≡ true
is_checked = refl

is_walked : is_simple cocoon_app ≡ true
is_walked = refl

accepted : (kinds : Kinds) (met : Option (Text × List Row)) → kinds ≡ [] → unless_refused kinds met ≡ met
accepted [] met e = refl
accepted (k ∷ kinds) met e = cc

refused : (kinds : Kinds) (k : ErrorKind) (met : Option (Text × List Row)) → IsAmong k kinds → unless_refused kinds met ≡ None
refused [] k met h = absurd h
refused (x ∷ kinds) k met h = refl

-- words that are taken, and words that are not
pub taken : (words : List Text) (app : App) (m : ArgMatches) → app ≡ cocoon_app → HasMatchesOf app words m → (is_simple_and_free app ≡ true → fault_of app words ≡ []) → subcommand_rows_of m ≡ subcommand words
unfolding subcommand_by
taken words app m is h k =
    (h (ap is_simple is ∙ is_walked)).1 ∙ ap (λ a. subcommand_of a words) is
    ∙ sym (accepted (fault_of cocoon_app words) _ (ap (λ a. fault_of a words) (sym is) ∙ k (ap is_simple_and_free is ∙ is_checked)))

pub not_taken : (words : List Text) (app : App) (e : Error) → app ≡ cocoon_app → (is_simple_and_free app ≡ true → HasKind (fault_of app words) e) → kind_of e ≢ OutOfMemory → None ≡ subcommand words
unfolding subcommand_by
not_taken words app e is h other = elim (h (ap is_simple_and_free is ∙ is_checked)) [
  | inl memory ↦ absurd (other memory)
  | inr among ↦ sym (refused (fault_of cocoon_app words) (kind_of e) _ (subst (λ a. IsAmong (kind_of e) (fault_of a words)) is among))
]

-- ---- one word

if_true : {X : Type 0} (b : Bool) (x y : X) → b ≡ true → (if b then x else y) ≡ x
if_true true x y e = refl
if_true false x y e = cc

if_false : {X : Type 0} (b : Bool) (x y : X) → b ≡ false → (if b then x else y) ≡ y
if_false true x y e = cc
if_false false x y e = refl

-- the word at a argument, which is a name, which is not, or which is not there
pub is_name : (m : ArgMatches) (argument word : Text) → Some word ≡ first_value (found_of m) argument → is_file_name word ≡ true → Some word ≡ argument_name argument (rows_of (found_of m))
is_name m argument word e h = sym (if_true (is_file_name word) (Some word) None h) ∙ ap (option_and_then word_name) (e ∙ first_value-rows (found_of m) argument)

pub is_other : (m : ArgMatches) (argument word : Text) → Some word ≡ first_value (found_of m) argument → is_file_name word ≡ false → None ≡ argument_name argument (rows_of (found_of m))
is_other m argument word e h = sym (if_false (is_file_name word) (Some word) None h) ∙ ap (option_and_then word_name) (e ∙ first_value-rows (found_of m) argument)

pub is_absent : (m : ArgMatches) (argument : Text) → None ≡ first_value (found_of m) argument → None ≡ argument_name argument (rows_of (found_of m))
is_absent m argument e = ap (option_and_then word_name) (e ∙ first_value-rows (found_of m) argument)

-- ---- the subcommand

first_part : {X : Type 0} {A : Type 0} {B : Type 0} (f : X → A) (g : X → B) (o : Option X) → option_map f o ≡ option_map (λ (p : A × B). p.0) (option_map (λ x. (f x, g x)) o)
first_part f g None = refl
first_part f g (Some x) = refl

same_pair : {A : Type 0} {B : Type 0} (o : Option (A × B)) (a : A) (b : B) → Some a ≡ option_map (λ p. p.0) o → Some b ≡ option_map (λ p. p.1) o → o ≡ Some (a, b)
same_pair None a b p q = cc
same_pair (Some (x, y)) a b p q = cc

-- the subcommand that was met, by its name and its matches
pub met_subcommand : (m : ArgMatches) (name : Text) (rows : List Row) → Some name ≡ subcommand_name_of m → Some rows ≡ option_map (λ p. p.1) (subcommand_rows_of m) → subcommand_rows_of m ≡ Some (name, rows)
met_subcommand m name rows p q = same_pair (subcommand_rows_of m) name rows (p ∙ first_part _ _ _) q

none_met : {A : Type 0} {B : Type 0} (o : Option (A × B)) → None ≡ option_map (λ p. p.1) o → o ≡ None
none_met None e = refl
none_met (Some p) e = cc

pub no_subcommand : (m : ArgMatches) → None ≡ option_map (λ p. p.1) (subcommand_rows_of m) → subcommand_rows_of m ≡ None
no_subcommand m e = none_met (subcommand_rows_of m) e
