-- Steps one after another: which are good, and which of them ends a command.
use Rattle.std.proofs.Common.{List, [], ◌∷◌, ◌++◌, Result, Err, inl, inr}
use Rattle.command_reports.specs.declared.report.Report.{Report}
use Rattle.command_reports.specs.declared.refusal.Refusal.{Refusal}
use Rattle.command_answers.specs.Outcomes.{AllGood, none, good, FirstWith, here, later, Ends, no_memory, at_step, at_fault}
use Rattle.command_answers.specs.Steps.{Inputs, Step, GivesUp, IsGood, Refuses, Stops}

pub all_good : (i : Inputs) (ss ts : List Step) → AllGood i ss → AllGood i ts → AllGood i (ss ++ ts)
all_good i [] ts g h = h
all_good i (s ∷ ss) ts (good a g) h = good a (all_good i ss ts g h)

pub first_before : (i : Inputs) (P : Step → Type 0) (ss ts : List Step) → FirstWith i P ss → FirstWith i P (ss ++ ts)
first_before i P [] ts h = elim h [ ]
first_before i P (s ∷ ss) ts (here p) = here p
first_before i P (s ∷ ss) ts (later g h) = later g (first_before i P ss ts h)

pub first_after : (i : Inputs) (P : Step → Type 0) (ss ts : List Step) → AllGood i ss → FirstWith i P ts → FirstWith i P (ss ++ ts)
first_after i P [] ts g h = h
first_after i P (s ∷ ss) ts (good a g) h = later a (first_after i P ss ts g h)

-- what follows of each step of which this holds follows of one of them
pub first_gives : {R : Type 0} (i : Inputs) (P : Step → Type 0) → ((s : Step) → P s → R) → (ss : List Step) → FirstWith i P ss → R
first_gives i P f [] h = elim h [ ]
first_gives i P f (s ∷ ss) (here p) = f s p
first_gives i P f (s ∷ ss) (later g h) = first_gives i P f ss h

-- what follows of each is what follows of one of them
pub first_map : (i : Inputs) (P Q : Step → Type 0) → ((s : Step) → P s → Q s) → (ss : List Step) → FirstWith i P ss → FirstWith i Q ss
first_map i P Q f [] h = elim h [ ]
first_map i P Q f (s ∷ ss) (here p) = here (f s p)
first_map i P Q f (s ∷ ss) (later g h) = later g (first_map i P Q f ss h)

pub ends_before : (i : Inputs) (outcome : Result Report Refusal) (ss ts : List Step) → Ends i outcome ss → Ends i outcome (ss ++ ts)
ends_before i outcome ss ts (no_memory m) = no_memory m
ends_before i outcome ss ts (at_step h) = at_step (first_before i _ ss ts h)
ends_before i outcome ss ts (at_fault h) = at_fault (first_before i _ ss ts h)

pub ends_after : (i : Inputs) (outcome : Result Report Refusal) (ss ts : List Step) → AllGood i ss → Ends i outcome ts → Ends i outcome (ss ++ ts)
ends_after i outcome ss ts g (no_memory m) = no_memory m
ends_after i outcome ss ts g (at_step h) = at_step (first_after i _ ss ts g h)
ends_after i outcome ss ts g (at_fault h) = at_fault (first_after i _ ss ts g h)

pub next : (i : Inputs) (outcome : Result Report Refusal) (s : Step) (ss : List Step) → IsGood i s → Ends i outcome ss → Ends i outcome (s ∷ ss)
next i outcome s ss g h = ends_after i outcome (s ∷ []) ss (good g none) h

pub refused : (i : Inputs) (r : Refusal) (s : Step) (ss : List Step) → Refuses i s r → Ends i (Err r) (s ∷ ss)
refused i r s ss h = at_step (here (inl h))

pub given_up : (i : Inputs) (outcome : Result Report Refusal) (s : Step) (ss : List Step) → GivesUp i s outcome → Ends i outcome (s ∷ ss)
given_up i outcome s ss h = at_step (here (inr h))

pub stopped : (i : Inputs) (r : Refusal) (s : Step) (ss : List Step) → Stops i s r → Ends i (Err r) (s ∷ ss)
stopped i r s ss h = at_fault (here h)
