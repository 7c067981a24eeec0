-- What is said of one assumption, and then of all.
use Rattle.std.proofs.Common.{◌≡◌, ℕ, ◌+◌, ◌<◌, ◌≤◌, ◌^◌, List, [], ◌∷◌, ◌++◌, length, map, take, Some, All, refl, sym, ap, subst, ◌∙◌, arith}
use Rattle.std.specs.Prelude.{slice_get}
use Rattle.std.proofs.lemmas.List.{length-append, length-map}
use Rattle.std.proofs.lemmas.List.Elements.{All-append, All-cons, All-from_recursion, All-nil, recursion_from_All}
use Rattle.cnf_core.specs.Clauses.{literals}
use Rattle.cnf_core.specs.Satisfying.{makes_true}
use Rattle.cnf_core.specs.declared.clauses.Assignment.{Assignment}
use Rattle.cnf_core.specs.declared.clauses.Cnf.{Cnf}
use Rattle.cocoon_num.specs.Tree.{AssumeDecl, Design}
use Rattle.cocoon_resolve.specs.Readers.{all_assumptions, assumptions_to}
use Rattle.cocoon_types.specs.Design.{last_level, widths_of}
use Rattle.cocoon_types.specs.Rules.{WellFormed}
use Rattle.bit_blast.specs.Blasting.{InputRow, IsClauses, IsFault, MapsInputs, most_clauses}
use Rattle.bit_blast.specs.Clauses.{count_of}
use Rattle.bit_blast.specs.declared.blasting.BlastFault.{BlastFault}
use Rattle.bit_blast.specs.declared.blasting.BlastFault.TheVariants.{Clauses, NoMemory}
use Rattle.bit_blast.specs.Goals.{IsUnapplied}
use Rattle.bit_blast.specs.Readings.{number_read}
use Rattle.bv_terms.specs.Arenas.{IsArena, KeepsTerms, term_at}
use Rattle.bv_terms.specs.TermTrees.{IsTerm, Term, width}
use Rattle.bv_terms.specs.declared.node.Node.{Node}
use Rattle.obligation_laws.specs.Shown.{HasWidth}
use Rattle.refinement.specs.Assumptions.{IsMet, Meets}
use Rattle.bv_terms.specs.WithRows.{Tables}
use Rattle.discharge.specs.Answering.{Answers, AnswersTo}
use Rattle.fun_instances.specs.OwnInputs.{HasInputsOf}
use Rattle.discharge.specs.Asked.{IsQuery, Refuses, Says}
use Rattle.discharge.specs.Meeting.{EarlierAreMet, OfTables}
use Rattle.discharge.specs.Queries.{assumption_query, own_term, values_read}
use Rattle.discharge.proofs.Lists.{at_there, front_all, take_next, there_below}
use Rattle.discharge.proofs.Inputs.{params_declared, rows_from, rows_narrow, rows_of_inputs, rows_read}
use Rattle.discharge.specs.declared.asking.Query.{Query}
use Rattle.discharge.specs.declared.meeting.Met.{Met}
use Rattle.discharge.specs.declared.meeting.Met.TheVariants.{Yes, Broken, SpentConflicts, Big}

-- ---- all assumptions

pub none_earlier : (d : Design) (tables : Tables) → EarlierAreMet d tables 0
none_earlier d tables es h s = All-nil (IsMet d _)

pub one_met : (d : Design) (tables : Tables) (i : ℕ) (a : AssumeDecl) → slice_get (all_assumptions d) i ≡ Some a → EarlierAreMet d tables i → OfTables d tables (λ defs. IsMet d defs a) → EarlierAreMet d tables (i + 1)
one_met d tables i a is so_far met es h s =
    subst (All (IsMet d _)) (sym (take_next (all_assumptions d) i a is))
    (All-append (IsMet d _) (take i (all_assumptions d)) (a ∷ []) (so_far es h s) (All-cons (IsMet d _) a [] (met es h s) (All-nil (IsMet d _))))

-- those of some levels come first
abbrev pub FirstAre : Design → (level : ℕ) → Type 0
FirstAre d level = (i : ℕ) (a : AssumeDecl) → slice_get (assumptions_to level d) i ≡ Some a → slice_get (all_assumptions d) i ≡ Some a

pub among_all : (d : Design) (level : ℕ) → FirstAre d level → (i : ℕ) → i < length (assumptions_to level d) → i < length (all_assumptions d)
among_all d level first i l = let a = at_there (assumptions_to level d) i l in there_below (all_assumptions d) i a.0 (first i a.0 a.1)

pub all_met_to : (d : Design) (level : ℕ) → FirstAre d level → (tables : Tables) (conflicts i : ℕ) → length (assumptions_to level d) ≤ i → EarlierAreMet d tables i → AnswersTo d level tables conflicts Yes
all_met_to d level first tables conflicts i h so_far es k s =
    All-from_recursion (IsMet d _) (assumptions_to level d)
    (front_all (IsMet d _) (assumptions_to level d) (all_assumptions d) i first h (recursion_from_All (IsMet d _) (take i (all_assumptions d)) (so_far es k s)))

pub last_told : (d : Design) (tables : Tables) (conflicts i : ℕ) (a : AssumeDecl) → slice_get (all_assumptions d) i ≡ Some a → EarlierAreMet d tables i → (met : Met) → (met ≡ Yes → ⊥) → Says d tables conflicts i a met
    → Answers d tables conflicts met
last_told d tables conflicts i a is so_far Yes last says = absurd (last refl)
last_told d tables conflicts i a is so_far (Broken n values) last says = record {
  assumption = a;
  is = ap (slice_get (all_assumptions d)) says.0 ∙ is;
  said = says.1;
  earlier = subst (EarlierAreMet d tables) (sym says.0) so_far;
}
last_told d tables conflicts i a is so_far (SpentConflicts n vars log) last says = record {
  assumption = a;
  is = ap (slice_get (all_assumptions d)) says.0 ∙ is;
  said = says.1;
  earlier = subst (EarlierAreMet d tables) (sym says.0) so_far;
}
last_told d tables conflicts i a is so_far (Big n count) last says = record {
  assumption = a;
  is = ap (slice_get (all_assumptions d)) says.0 ∙ is;
  said = says.1;
  earlier = subst (EarlierAreMet d tables) (sym says.0) so_far;
}

pub last_told_to : (d : Design) (level : ℕ) (tables : Tables) (conflicts i : ℕ) → i < length (assumptions_to level d) → (a : AssumeDecl) → slice_get (all_assumptions d) i ≡ Some a → EarlierAreMet d tables i → (met : Met) → (met ≡ Yes → ⊥)
    → Says d tables conflicts i a met → AnswersTo d level tables conflicts met
last_told_to d level tables conflicts i l a is so_far Yes last says = absurd (last refl)
last_told_to d level tables conflicts i l a is so_far (Broken n values) last says = (
  subst (λ m. m < length (assumptions_to level d)) (sym says.0) l,
  last_told d tables conflicts i a is so_far (Broken n values) last says,
)
last_told_to d level tables conflicts i l a is so_far (SpentConflicts n vars log) last says = (
  subst (λ m. m < length (assumptions_to level d)) (sym says.0) l,
  last_told d tables conflicts i a is so_far (SpentConflicts n vars log) last says,
)
last_told_to d level tables conflicts i l a is so_far (Big n count) last says = (
  subst (λ m. m < length (assumptions_to level d)) (sym says.0) l,
  last_told d tables conflicts i a is so_far (Big n count) last says,
)

-- of all levels
pub of_all : (d : Design) (level : ℕ) → level ≡ last_level d → (tables : Tables) (conflicts : ℕ) (met : Met) → AnswersTo d level tables conflicts met → Answers d tables conflicts met
of_all d level e tables conflicts Yes h = subst (λ n. OfTables d tables (Meets n d)) e h
of_all d level e tables conflicts (Broken i values) h = h.1
of_all d level e tables conflicts (SpentConflicts i vars log) h = h.1
of_all d level e tables conflicts (Big i count) h = h.1

-- ---- the query

pub is_query : (d : Design) (a : AssumeDecl) (tables : Tables) (q : Query) (nodes : List Node) (term : ℕ) → IsArena q.terms → term < length nodes → term_at nodes term ≡ own_term d a → KeepsTerms nodes q.terms
    → q.goal < length q.terms → term_at q.terms q.goal ≡ assumption_query d a tables → HasInputsOf (widths_of a.params) q.terms
    → HasWidth 1 (own_term d a) → width (assumption_query d a tables) ≡ width (own_term d a) → IsUnapplied (assumption_query d a tables) → IsQuery d a tables q
is_query d a tables q nodes term arena there is kept goal_there goal_is inputs wide same unapplied = record {
  there = goal_there;
  term = goal_is;
  asked = record {
    own = subst IsTerm (kept.terms term there ∙ is) (arena.terms term (longer kept.grown));
    goal = record { term = subst IsTerm goal_is (arena.terms q.goal goal_there); truth = same ∙ wide; unapplied = unapplied };
  };
  inputs = inputs;
}
  where
    longer : (more : List Node) × (q.terms ≡ nodes ++ more) → term < length q.terms
    longer g = let e = ap length g.1 ∙ length-append nodes g.0 in omega (arith, e, there)

-- ---- the inputs of a query

rows_asked : (d : Design) (a : AssumeDecl) (tables : Tables) (q : Query) → IsQuery d a tables q → (rows : List InputRow) → MapsInputs q.terms (term_at q.terms q.goal) rows
    → rows ≡ rows_from (assumption_query d a tables) 0 (widths_of a.params)
rows_asked d a tables q h rows m =
    rows_of_inputs q.terms (assumption_query d a tables) rows h.inputs.ids (widths_of a.params) (subst (λ g. MapsInputs q.terms g rows) h.term m) h.inputs.inputs

pub narrow_rows : (d : Design) → WellFormed d → (i : ℕ) (a : AssumeDecl) → slice_get (all_assumptions d) i ≡ Some a → (tables : Tables) (q : Query) → IsQuery d a tables q → (rows : List InputRow) → MapsInputs q.terms (term_at q.terms q.goal) rows
    → All (λ (row : InputRow). row.width ≤ 64) rows
narrow_rows d w i a is tables q h rows m =
    subst (All (λ (row : InputRow). row.width ≤ 64)) (sym (rows_asked d a tables q h rows m)) (rows_narrow (assumption_query d a tables) 0 (widths_of a.params) (params_declared d w i a is))

pub values_are : (d : Design) (a : AssumeDecl) (tables : Tables) (q : Query) → IsQuery d a tables q → (rows : List InputRow) → MapsInputs q.terms (term_at q.terms q.goal) rows → (x : Assignment)
    → map (λ (row : InputRow). number_read (makes_true x) row.bits) rows ≡ values_read (makes_true x) d a tables
values_are d a tables q h rows m x =
    ap (map (λ (row : InputRow). number_read (makes_true x) row.bits)) (rows_asked d a tables q h rows m)
    ∙ rows_read (makes_true x) (assumption_query d a tables) 0 (widths_of a.params)

-- ---- clauses

pub few_clauses : (cnf : Cnf) (goal : Term) → IsClauses cnf goal → count_of goal ≤ most_clauses → (conflicts : ℕ) → conflicts < 2 ^ 31 → length cnf.clauses + conflicts < 2 ^ 32
few_clauses cnf goal h few conflicts small =
    let e : length cnf.clauses ≡ count_of goal = sym (length-map cnf.clauses literals) ∙ ap length h.clauses_are in
    omega (arith, e, few, small)

-- ---- answers

pub refused_says : (d : Design) (a : AssumeDecl) (tables : Tables) (q : Query) → IsQuery d a tables q → (conflicts i : ℕ) (fault : BlastFault) → IsFault (term_at q.terms q.goal) fault → (met : Met) → Refuses i fault met
    → Says d tables conflicts i a met
refused_says d a tables q h conflicts i (Clauses count) fault met is =
    let e : IsFault (assumption_query d a tables) (Clauses count) = subst (λ g. IsFault g (Clauses count)) h.term fault in
    subst (Says d tables conflicts i a) (sym is) (refl, record { count_is = e.0; too_many = e.1 })
refused_says d a tables q h conflicts i NoMemory fault met is = absurd is
