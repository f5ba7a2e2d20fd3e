-- Instructions over cells that hold the same but at some places, which they leave alone.
use Rattle.std.proofs.Common.{◌≡◌, ◌≢◌, ℕ, Bool, true, false, cond, List, [], ◌∷◌, length, refl, sym, ap, ◌∙◌, subst}
use Rattle.std.specs.Prelude.{slice_index, slice_set, ◌==◌}
use Rattle.std.specs.List.{AllByRecursion as Each, list_all}
use Rattle.std.proofs.lemmas.Bool.{and_parts, and_from, cond-true, cond-false, eqb-true, eqb-false}
use Rattle.std.proofs.lemmas.List.{get_or-set_other, length-set}
use Rattle.lower_machine.specs.Machine.{machine}
use Rattle.lower_op.specs.declared.op.Op.{Op}
use Rattle.lower_op.specs.Steps.{gives, step, target, updated}
use Rattle.law_lanes.specs.Reading.{updates_by, loads, saves, reads}
use Rattle.law_lanes.specs.Lanes.{is_own, are_own}
use Rattle.law_lanes.proofs.Ops.{at, from, stored, registers_of, cells_of, gives_cells}
use Rattle.law_lanes.proofs.Swap.{reg, cel, Fine, Stay, registers_are, cells_are, resting, at_stays, from_stays, stays_step}
use Rattle.law_lanes.proofs.Turning.{Alike, onto, ran, set_alike}

-- ---- what one instruction leaves alone

-- a cell elsewhere is as before
elsewhere : (a : Op) (r c : List ℕ) (q : ℕ) → (saves a ≡ true → q ≢ at a r) → slice_index (cells_of a r c) q ≡ slice_index c q
elsewhere a r c q other = go (saves a) refl
  where
    go : (b : Bool) → saves a ≡ b → slice_index (cells_of a r c) q ≡ slice_index c q
    go true e = ap (λ l. slice_index l q) (cond-true (saves a) (slice_set c (at a r) (stored a r c)) c e) ∙ get_or-set_other c (at a r) q (stored a r c) 0 (other e)
    go false e = ap (λ l. slice_index l q) (resting a r c e)

cells_length : (a : Op) (r c : List ℕ) → length (cells_of a r c) ≡ length c
cells_length a r c = go (saves a) refl
  where
    go : (b : Bool) → saves a ≡ b → length (cells_of a r c) ≡ length c
    go true e = ap length (cond-true (saves a) (slice_set c (at a r) (stored a r c)) c e) ∙ length-set c (at a r) (stored a r c)
    go false e = ap length (resting a r c e)

pub cells_count : (ops : List Op) (r c : List ℕ) → length (cel ops r c) ≡ length c
cells_count [] r c = refl
cells_count (a ∷ ops) r c = cells_count ops (step a (machine r c)).registers (step a (machine r c)).cells ∙ ap length (cells_are a r c) ∙ cells_length a r c

-- ---- instructions of a turn

module _ (all : List Op) where
  -- an instruction writes no such place from registers in which these places are made
  abbrev pub WritesNot : (ℕ → Type 0) → List ℕ → Op → Type 0
  WritesNot F r a = saves a ≡ true → F (at a r) → ⊥

  -- nor reads one
  abbrev pub ReadsNot : (ℕ → Type 0) → List ℕ → Op → Type 0
  ReadsNot F r a = loads a ≡ true → F (from a r) → ⊥

  stay_on : (r s t : List ℕ) → Stay all r s → Stay all s t → Stay all r t
  stay_on r s t one two = λ x e. one x e ∙ two x e

  -- cells that none of them writes are as before
  pub kept_cell : (r0 : List ℕ) (q : ℕ) (ops : List Op) (r c : List ℕ) → Each (Fine all) ops → Stay all r0 r → Each (WritesNot (λ p. p ≡ q) r0) ops → slice_index (cel ops r c) q ≡ slice_index c q
  kept_cell r0 q [] r c fine stay none = refl
  kept_cell r0 q (a ∷ ops) r c fine stay none =
      kept_cell r0 q ops (step a (machine r c)).registers (step a (machine r c)).cells fine.1 (stay_on r0 r (step a (machine r c)).registers stay (stays_step all a r c fine.0)) none.1
      ∙ ap (λ l. slice_index l q) (cells_are a r c)
      ∙ elsewhere a r c q (λ s e. none.0 s (at_stays all a r0 r fine.0 stay ∙ sym e))

  -- as many cells, which hold the same but at some places
  pub record Agree (F : ℕ → Type 0) (c d : List ℕ) : Type 0 where
    pub count : length c ≡ length d
    pub same : (p : ℕ) → (F p → ⊥) → slice_index c p ≡ slice_index d p

  module _ (F : ℕ → Type 0) (variable : ℕ) (r0 : List ℕ) where
    module _ (a : Op) (r c d : List ℕ) (fine : Fine all a) (stay : Stay all r0 r) (not : WritesNot F r0 a) (none : ReadsNot F r0 a) (agree : Agree F c d) where
      source_same : loads a ≡ true → slice_index c (from a r) ≡ slice_index d (from a r)
      source_same l = agree.same (from a r) (λ f. none l (subst F (sym (from_stays all a r0 r fine stay)) f))

      gives_on : gives a (machine r c) ≡ gives a (machine r d)
      gives_on = gives_cells a r c d source_same

      stored_on : stored a r c ≡ stored a r d
      stored_on = go (loads a) refl
        where
          go : (t : Bool) → loads a ≡ t → stored a r c ≡ stored a r d
          go true e =
              ap (λ g. cond (loads a) (updated (updates_by a) (slice_index c (from a r)) g) g) gives_on
              ∙ ap (λ n. cond (loads a) (updated (updates_by a) n (gives a (machine r d))) (gives a (machine r d))) (source_same e)
          go false e =
              cond-false (loads a) (updated (updates_by a) (slice_index c (from a r)) (gives a (machine r c))) (gives a (machine r c)) e
              ∙ gives_on
              ∙ sym (cond-false (loads a) (updated (updates_by a) (slice_index d (from a r)) (gives a (machine r d))) (gives a (machine r d)) e)

      one_registers : registers_of a r c ≡ registers_of a r d
      one_registers = ap (λ n. cond (saves a) r (slice_set r (target a) n)) gives_on

      one_cells : Agree F (cells_of a r c) (cells_of a r d)
      one_cells = record { count = cells_length a r c ∙ agree.count ∙ sym (cells_length a r d); same = λ p f. go p f (saves a) refl }
        where
          go : (p : ℕ) → (F p → ⊥) → (b : Bool) → saves a ≡ b → slice_index (cells_of a r c) p ≡ slice_index (cells_of a r d) p
          go p f false e = ap (λ l. slice_index l p) (resting a r c e) ∙ agree.same p f ∙ sym (ap (λ l. slice_index l p) (resting a r d e))
          go p f true e =
              ap (λ l. slice_index l p) (cond-true (saves a) (slice_set c (at a r) (stored a r c)) c e)
              ∙ there (p == at a r) refl
              ∙ sym (ap (λ l. slice_index l p) (cond-true (saves a) (slice_set d (at a r) (stored a r d)) d e))
            where
              there : (b : Bool) → (p == at a r) ≡ b → slice_index (slice_set c (at a r) (stored a r c)) p ≡ slice_index (slice_set d (at a r) (stored a r d)) p
              there true h =
                  let is = eqb-true p (at a r) h in
                  ap (slice_index (slice_set c (at a r) (stored a r c))) is
                  ∙ set_alike c d (at a r) (stored a r c) agree.count
                  ∙ ap (λ v. slice_index (slice_set d (at a r) v) (at a r)) stored_on
                  ∙ sym (ap (slice_index (slice_set d (at a r) (stored a r d))) is)
              there false h =
                  get_or-set_other c (at a r) p (stored a r c) 0 (eqb-false p (at a r) h) ∙ agree.same p f
                  ∙ sym (get_or-set_other d (at a r) p (stored a r d) 0 (eqb-false p (at a r) h))

    -- what instructions leave of two machines
    pub record Went (ops earlier : List Op) (r s c d : List ℕ) : Type 0 where
      pub registers : Alike variable all (onto earlier ops) (reg ops r c) (reg ops s d)
      pub cells : Agree F (cel ops r c) (cel ops s d)

    pub went : (ops earlier : List Op) (r s c d : List ℕ) → Each (Fine all) ops → are_own variable all earlier ops ≡ true → Stay all r0 r → Each (WritesNot F r0) ops → Each (ReadsNot F r0) ops
        → Alike variable all earlier r s → Agree F c d → Went ops earlier r s c d
    went [] earlier r s c d fine own stay not none alike agree = record { registers = alike; cells = agree }
    went (a ∷ ops) earlier r s c d fine own stay not none alike agree =
        moved (went ops (a ∷ earlier) r1 s1 c1 d1 fine.1 parts.1 (stay_on r0 r r1 stay (stays_step all a r c fine.0)) not.1 none.1 there cells_there)
      where
        parts : (list_all (is_own variable all earlier) (reads a) ≡ true) × (are_own variable all (a ∷ earlier) ops ≡ true)
        parts = and_parts (list_all (is_own variable all earlier) (reads a)) (are_own variable all (a ∷ earlier) ops) own

        r1 : List ℕ
        r1 = (step a (machine r c)).registers

        c1 : List ℕ
        c1 = (step a (machine r c)).cells

        s1 : List ℕ
        s1 = (step a (machine s d)).registers

        d1 : List ℕ
        d1 = (step a (machine s d)).cells

        one_own : are_own variable all earlier (a ∷ []) ≡ true
        one_own = and_from (list_all (is_own variable all earlier) (reads a)) true parts.0 refl

        registers_on : (step a (machine r c)).registers ≡ (step a (machine r d)).registers
        registers_on = registers_are a r c ∙ one_registers a r c d fine.0 stay not.0 none.0 agree ∙ sym (registers_are a r d)

        there : Alike variable all (a ∷ earlier) r1 s1
        there = subst (λ (l : List ℕ). Alike variable all (a ∷ earlier) l s1) (sym registers_on) (ran variable all (a ∷ []) earlier r s d one_own alike).registers

        cells_there : Agree F c1 d1
        cells_there =
            subst (λ (l : List ℕ). Agree F l d1) (sym (cells_are a r c))
            (subst (λ (l : List ℕ). Agree F (cells_of a r c) l) (sym (cells_are a r d) ∙ (ran variable all (a ∷ []) earlier r s d one_own alike).cells) (one_cells a r c d fine.0 stay not.0 none.0 agree))

        moved : Went ops (a ∷ earlier) r1 s1 c1 d1 → Went (a ∷ ops) earlier r s c d
        moved k = record { registers = k.registers; cells = k.cells }
