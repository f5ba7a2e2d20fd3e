-- What a team leaves of a doacross nest, wave by wave.
use Rattle.std.specs.Prelude.{ℕ, suc, Bool, false, ◌≡◌, ◌+◌, ◌<◌, ◌==◌, List, [], ◌∷◌, ◌++◌, length, map, drop, slice_get, Option, Some, None, All, option_map}
use Rattle.std.proofs.Common.{Vec, Global, refl, sym, ap, ◌∙◌, subst, arith}
use Rattle.std.proofs.Math.Seq.{drop-cons}
use Rattle.std.proofs.lemmas.List.{length-map}
use Rattle.std.proofs.lemmas.List.Elements.{All-filter, All-from_get_or}
use Rattle.std.proofs.lemmas.List.Sums.{length-filter, count_by-le-length}
use Rattle.std.proofs.lemmas.Option.{none-some, same_Some, slice_get-map, slice_get_within, get_or_from_slice_get}
use Rattle.semantics.specs.Tree.{Variable}
use Rattle.semantics.specs.Meaning.Places.{below}
use Rattle.semantics.specs.Meaning.State.{State}
use Rattle.semantics.specs.Meaning.Agrees.{is_among}
use Rattle.semantics.specs.Loops.Chunk.{Chunk, Kind, cut}
use Rattle.semantics.specs.Loops.Joined.{chunked}
use Rattle.semantics.specs.Loops.Nest.{Vector}
use Rattle.semantics.specs.Loops.Order.{Distance, level, wave_count}
use Rattle.semantics.specs.Loops.Piece.{Roles}
use Rattle.law_nests.specs.Walks.{walk}
use Rattle.law_starts.specs.Begun.{told_apart, begun_with}
use Rattle.nest_space.specs.Space.{Turns, vectors}
use Rattle.store.specs.Kept.{Kept}
use Rattle.store.specs.Flat.{AreFilled, values_of}
use Rattle.lower_code.specs.declared.laid.Laid.{Laid}
use Rattle.lower_machine.specs.Machine.{Machine, machine}
use Rattle.lower.specs.declared.lowered.LoweredLoop.{LoweredLoop}
use Rattle.lower.specs.declared.roles.Spot.{Spot}
use Rattle.lower.specs.Lowered.{IsSpaceOf}
use Rattle.lower.specs.Roles.{StandEach}
use Rattle.waves.specs.Wanted.{vector_at, numbers_of, AreWaves}
use Rattle.team_worker.specs.declared.grounds.Grounds.{Grounds}
use Rattle.team_worker.specs.declared.pass.Pass.{Pass}
use Rattle.team_worker.specs.declared.pass.Pass.TheVariants.{Plain, Second, Wave}
use Rattle.team.specs.declared.waving.Reached.{Reached}
use Rattle.team_log.specs.Applied.{AreApplied}
use Rattle.team_worker.specs.Ends.{IsCut, AreAll}
use Rattle.team_log.specs.Logged.{Account}
use Rattle.team_worker.specs.Places.{AreSplit, count_taken}
use Rattle.team_log.specs.Spots.{put_values, IsPutBy}
use Rattle.team_worker.specs.Starts.{taken_in, AreTakenFrom, TellsOf, started_in, HaveRuns}
use Rattle.team.specs.Waved.{WaveTogether, WaveLeaves, AreWaved, IsReachedBy, IsWaveIn, AreWavesIn, IsWaveOf, AreOfWave}
use Rattle.team_worker.proofs.Cutting.{length_below, at_below}
use Rattle.team.proofs.Effects.{have_same}
use Rattle.team.proofs.Merging.{IsAlike, merges_all}

-- ---- what a wave is run from

pub wave_taken : (numbers : List ℕ) (pass : Pass) (us : List Vector) → IsWaveOf numbers pass → taken_in pass us ≡ map (vector_at us) numbers
wave_taken numbers Plain us is = absurd is
wave_taken numbers (Second starts) us is = absurd is
wave_taken numbers (Wave listed) us is = ap (map (vector_at us)) is

pub wave_long : (numbers : List ℕ) (pass : Pass) (us : List Vector) → IsWaveOf numbers pass → length (taken_in pass us) ≡ length numbers
wave_long numbers pass us is = ap (λ (vs : List Vector). length vs) (wave_taken numbers pass us is) ∙ length-map numbers (vector_at us)

wave_from : (numbers : List ℕ) (pass : Pass) (us : List Vector) → IsWaveOf numbers pass → All (λ k. k < length us) numbers → AreTakenFrom pass us
wave_from numbers pass us is all = record {
  wave = λ listed e.
      let here : listed.items ≡ numbers = subst (IsWaveOf numbers) e is in
      subst (λ (ns : List ℕ). All (λ k. k < length us) ns) (sym here) all;
}

wave_tells : (numbers : List ℕ) (pass : Pass) (roles : Roles) → IsWaveOf numbers pass → roles.lasts ≡ [] → TellsOf pass roles
wave_tells numbers Plain roles is none = absurd is
wave_tells numbers (Second starts) roles is none = absurd is
wave_tells numbers (Wave listed) roles is none = none

wave_starts : (numbers : List ℕ) (pass : Pass) (roles : Roles) (outer : State) → IsWaveOf numbers pass → roles.reductions ≡ [] → started_in pass roles outer ≡ (λ (number : ℕ). outer)
wave_starts numbers Plain roles outer is none = absurd is
wave_starts numbers (Second starts) roles outer is none = absurd is
wave_starts numbers (Wave listed) roles outer is none = ap (λ rs. (λ (number : ℕ). begun_with rs outer)) none

pub wave_split : (l : LoweredLoop) (r : Reached) (numbers : List ℕ) (kind : Kind) (workers : ℕ) (grounds : Grounds) → IsReachedBy l r → IsWaveIn (vectors r.space) numbers → AreOfWave r numbers kind workers grounds → AreSplit l grounds
wave_split l r numbers kind workers grounds by within of =
    let us = vectors grounds.space in
    let long = wave_long numbers grounds.pass us of.pass in
    let within_here = subst (λ (ts : List Turns). IsWaveIn (vectors ts) numbers) (sym of.space) within in
    let most = within.most in
    let few = by.few in
    record {
      loops = ap (λ (ts : List Turns). length ts) of.space ∙ by.loops;
      iterations = subst (λ (rs : Vec ℕ Global). IsSpaceOf l rs.items grounds.space) (sym of.registers) (subst (λ (ts : List Turns). IsSpaceOf l r.registers.items ts) (sym of.space) by.of);
      from = wave_from numbers grounds.pass us of.pass within_here.numbers_of;
      few = omega arith;
      cut = subst (λ n. IsCut n grounds.chunks) (sym long) of.cut_is;
    }

pub wave_chunks : (r : Reached) (numbers : List ℕ) (kind : Kind) (workers : ℕ) (grounds : Grounds) → AreOfWave r numbers kind workers grounds → grounds.chunks ≡ cut kind (count_taken grounds) workers
wave_chunks r numbers kind workers grounds of = of.chunks ∙ ap (λ n. cut kind n workers) (sym (wave_long numbers grounds.pass (vectors grounds.space) of.pass))

-- ---- what a wave leaves

no_spots : (layout : List Laid) (mark : ℕ) (spots : List Spot) → StandEach layout mark [] spots → spots ≡ []
no_spots layout mark [] stand = refl
no_spots layout mark (at ∷ spots) stand = absurd stand

none_apart : (roles : Roles) (x : Variable) → roles.reductions ≡ [] → roles.lasts ≡ [] → is_among (told_apart roles) x ≡ false
none_apart roles x no_reductions no_lasts = λ i. is_among (no_lasts i ++ map (λ r. r.0) (no_reductions i)) x

pub wave_together : (l : LoweredLoop) (r : Reached) (numbers : List ℕ) (kind : Kind) (workers : ℕ) (grounds : Grounds) (account : Account) (ks ks' : List Kept) → IsReachedBy l r → AreOfWave r numbers kind workers grounds → AreFilled ks
    → AreAll l grounds.registers.items ks grounds.pass grounds.chunks account → AreApplied (values_of ks) (values_of ks') account.chunks → WaveTogether l numbers r.registers.items ks ks' kind workers
wave_together l r numbers kind workers grounds account ks ks' by of filled left applied = λ layout mark roles loops body outer us effects no_reductions no_lasts reached ran x is.
    let registers : List ℕ = r.registers.items in
    let pass : Pass = grounds.pass in
    let chunks : List Chunk = grounds.chunks in
    let taken : List Vector = taken_in pass us in
    let all : AreAll l registers ks pass chunks account = subst (λ (rs : List ℕ). AreAll l rs ks pass chunks account) (λ i. (of.registers i).items) left in
    let css_is : chunked (map (vector_at us) numbers) (cut kind (length numbers) workers) ≡ chunked taken chunks = λ i. chunked (sym (wave_taken numbers pass us of.pass) i) (sym of.chunks i) in
    let same_runs = have_same loops body outer (chunked taken chunks) effects (subst (λ (css : List (List Vector)). map (λ vs. walk loops body vs outer) css ≡ map Some effects) css_is ran) in
    let start_is = wave_starts numbers pass roles outer of.pass no_reductions in
    let runs : HaveRuns loops body (started_in pass roles outer) (chunked taken chunks) effects = subst (λ (start : ℕ → State). HaveRuns loops body start (chunked taken chunks) effects) (sym start_is) same_runs in
    let cut_is : IsCut (length taken) chunks = subst (λ n. IsCut n chunks) (sym (wave_long numbers pass us of.pass)) of.cut_is in
    let spots : l.roles.lasts.items ≡ [] = no_spots layout mark l.roles.lasts.items (subst (λ (xs : List Variable). StandEach layout mark xs l.roles.lasts.items) no_lasts reached.lowered.roles_at.lasts) in
    let put : IsPutBy (λ (m : Machine). m) l.roles account registers registers ks ks' = record { cells = values_of ks'; applied = applied; put = sym (ap (λ (at : List Spot). put_values at account.lasts (machine registers (values_of ks'))) spots) } in
    merges_all layout mark roles loops body outer us effects pass l registers ks chunks account registers ks' reached runs filled cut_is all (wave_tells numbers pass roles of.pass no_lasts) outer
    (λ number e y h. subst (λ (start : ℕ → State). IsAlike outer (start number) e y) (sym start_is) (record { cells = λ js. refl; looks = refl })) (λ y js h. refl) (λ (m : Machine). m) put
    (λ m. record { registers = refl; cells = refl }) (λ m y h. record { cells = λ js. refl; register = refl }) x is (none_apart roles x no_reductions no_lasts)

-- ---- all waves

all_below : (n : ℕ) → All (λ k. k < n) (below n)
all_below n = All-from_get_or (λ k. k < n) (below n) 0 (λ i lt. let long = length_below n in let within : i < n = omega arith in subst (λ k. k < n) (sym (get_or_from_slice_get (below n) i i 0 (at_below i n within))) within)

wave_in : (us : List Vector) (ds : List Distance) (i : ℕ) → IsWaveIn us (numbers_of us ds i)
wave_in us ds i =
    let p : ℕ → Bool = λ k. level us ds (vector_at us k) == i in
    record {
      numbers_of = All-filter p (λ k. k < length us) (below (length us)) (all_below (length us));
      most = omega (arith, length-filter p (below (length us)), count_by-le-length p (below (length us)), length_below (length us));
    }

pub waves_in : (us : List Vector) (ds : List Distance) (waves : List (List ℕ)) → AreWaves us ds waves → AreWavesIn us waves
waves_in us ds waves are i numbers there = go (slice_get (below (wave_count us ds)) i) refl
  where
    go : (o : Option ℕ) → slice_get (below (wave_count us ds)) i ≡ o → IsWaveIn us numbers
    go None e = absurd (none-some numbers (sym (ap (λ (l : List (List ℕ)). slice_get l i) are.each ∙ slice_get-map (numbers_of us ds) (below (wave_count us ds)) i ∙ ap (option_map (numbers_of us ds)) e) ∙ there))
    go (Some j) e =
        let is : numbers_of us ds j ≡ numbers = same_Some (numbers_of us ds j) numbers (sym (ap (λ (l : List (List ℕ)). slice_get l i) are.each ∙ slice_get-map (numbers_of us ds) (below (wave_count us ds)) i ∙ ap (option_map (numbers_of us ds)) e) ∙ there) in
        subst (λ (ns : List ℕ). IsWaveIn us ns) is (wave_in us ds j)

-- the wave of a level, and those behind it
pub next_wave : (l : LoweredLoop) (waves : List (List ℕ)) (level : ℕ) (numbers registers : List ℕ) (ks between ks' : List Kept) (kind : Kind) (workers : ℕ) → slice_get waves level ≡ Some numbers → WaveLeaves l numbers registers ks between kind workers
    → AreWaved l (drop (level + 1) waves) registers between ks' kind workers → AreWaved l (drop level waves) registers ks ks' kind workers
next_wave l waves level numbers registers ks between ks' kind workers there one others =
    let next : suc level ≡ level + 1 = omega arith in
    let front : drop level waves ≡ numbers ∷ drop (level + 1) waves =
    drop-cons waves level numbers (slice_get_within waves level numbers there) ∙ (λ i. get_or_from_slice_get waves level numbers numbers there i ∷ drop (next i) waves) in
    subst (λ (ws : List (List ℕ)). AreWaved l ws registers ks ks' kind workers) (sym front) (between, one, others)
