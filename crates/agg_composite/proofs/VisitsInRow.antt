-- Visits in a row: what a list gives is what its elements give, in order.
use Rattle.std.proofs.Common.{◌≡◌, ℕ, ◌+◌, ◌*◌, ◌<◌, ◌≤◌, List, [], ◌∷◌, ◌++◌, Result, Ok, Err}
use Rattle.std.proofs.Common.{IsErrAnd, length, get_or, take, drop, sym, ap, length-append}
use Rattle.std.proofs.Common.{subst, arith}
use Rattle.std.proofs.lemmas.List.{take_all}
use Rattle.std.proofs.lemmas.Result.{err_from_is_err_and}
use Rattle.agg_composite.specs.declared.buckets.visit_error.VisitError.{VisitError}
use Rattle.agg_composite.specs.declared.buckets.visit_error.VisitError.TheVariants.{TooMany}
use Rattle.agg_composite.specs.Answers.{Answers}
use Rattle.agg_composite.proofs.PartsInRow.{Appends, gives-more, gives-all, length-more}
use Rattle.agg_composite.proofs.PartsInRow.{length-front}

-- what call results are
abbrev pub Returned : Type 0
Returned = Result (Unit {0}) VisitError

-- visits of what lists hold, and why they are refused
pub record AreVisits {Y S : Type 0} (visits : List Y → S → S → Type 0)
    (refuses : List Y → S → Type 0) : Type 0 where
  pub none : (s : S) → visits [] s s
  pub both : (ys zs : List Y) (s t u : S) → visits ys s t → visits zs t u → visits (ys ++ zs) s u
  pub more : (ys zs : List Y) (s : S) → refuses ys s → refuses (ys ++ zs) s
  pub after : (ys zs : List Y) (s t : S) → visits ys s t → refuses zs t → refuses (ys ++ zs) s

-- what has come of the elements before i: what they give is visited, by one to three steps each
pub record SoFar {X Y S : Type 0} (visits : List Y → S → S → Type 0) (f : List X → List Y)
    (xs : List X) (i : ℕ) (s t : S) (steps steps_now : ℕ) : Type 0 where
  pub visited : visits (f (take i xs)) s t
  pub least : steps + length (f (take i xs)) ≤ steps_now
  pub most : steps_now ≤ steps + 3 * length (f (take i xs))

-- what has come so far, of a state and of steps by other names
pub same-so_far : {X Y S : Type 0} (visits : List Y → S → S → Type 0) (f : List X → List Y)
    (xs : List X) (i : ℕ) (s t u : S) (steps steps_now steps_then : ℕ) → u ≡ t
    → steps_then ≡ steps_now → SoFar visits f xs i s t steps steps_now
    → SoFar visits f xs i s u steps steps_then
same-so_far visits f xs i s t u steps steps_now steps_then is taken so_far =
    record {
      visited = subst (visits (f (take i xs)) s) (sym is) so_far.visited;
      least = subst (λ n. steps + length (f (take i xs)) ≤ n) (sym taken) so_far.least;
      most = subst (λ n. n ≤ steps + 3 * length (f (take i xs))) (sym taken) so_far.most;
    }

-- an error that a call passes on
pub passed-on : (visits refuses : Type 0) (count steps steps_now : ℕ)
    (error : VisitError) (returned : Returned)
    → (◌≡◌ {A = Returned} (Err error) (Err TooMany) → refuses)
    → steps ≤ steps_now → steps_now ≤ steps + 3 * count
    → IsErrAnd returned (λ e. e ≡ error)
    → Answers TooMany visits refuses count steps steps_now returned
passed-on visits refuses count steps steps_now error returned too_many later most is_err =
    let given = err_from_is_err_and returned is_err in
    subst (Answers TooMany visits refuses count steps steps_now) (sym given.1) (record {
      ok = tt;
      least = tt;
      too_many = λ e. too_many (cc (given.2, e));
      later = later;
      most = most;
    })

-- an error by itself, of another cause than too many
pub refused : (visits refuses : Type 0) (count steps : ℕ) (error : VisitError)
    (returned : Returned)
    → (◌≡◌ {A = Returned} (Err error) (Err TooMany) → refuses)
    → IsErrAnd returned (λ e. e ≡ error)
    → Answers TooMany visits refuses count steps steps returned
refused visits refuses count steps error returned too_many is_err =
    passed-on visits refuses count steps steps error returned too_many (omega arith) (omega arith)
    is_err

module _ {Y S : Type 0} (visits : List Y → S → S → Type 0) (refuses : List Y → S → Type 0)
    (laws : AreVisits visits refuses) where
  -- what visits of a list answer
  abbrev Answered : List Y → S → S → ℕ → ℕ → Returned → Type 0
  Answered ys s t = Answers TooMany (visits ys s t) (refuses ys s) (length ys)

  -- nothing to visit
  pub none-visited : (s : S) (steps : ℕ) → Answered [] s s steps steps (Ok tt)
  none-visited s steps = record {
    ok = laws.none s;
    least = omega arith;
    too_many = λ e. absurd (cc e);
    later = omega arith;
    most = omega arith;
  }

  -- what has come before the first element
  pub nothing-visited : {X : Type 0} (f : List X → List Y) → f [] ≡ [] → (xs : List X) (s : S)
      (steps : ℕ) → SoFar visits f xs 0 s s steps steps
  nothing-visited f none xs s steps =
      let long : length (f []) ≡ 0 = ap length none in
      record {
        visited = subst (λ ys. visits ys s s) (sym none) (laws.none s);
        least = omega (arith, long);
        most = omega (arith, long);
      }

  -- two lists in a row, of which the first was visited
  pub then-visited : (ys zs : List Y) (s t u : S) (steps steps_now steps_then : ℕ)
      (result : Returned)
      → Answered ys s t steps steps_now (Ok tt) → Answered zs t u steps_now steps_then result
      → Answered (ys ++ zs) s u steps steps_then result
  then-visited ys zs s t u steps steps_now steps_then (Ok x) first second =
      let long = length-append ys zs in
      let least : steps + length (ys ++ zs) ≤ steps_then =
      omega (arith, long, first.least, second.least) in
      record {
        ok = laws.both ys zs s t u first.ok second.ok;
        least = least;
        too_many = λ e. absurd (cc e);
        later = omega (arith, least);
        most = omega (arith, long, first.most, second.most);
      }
  then-visited ys zs s t u steps steps_now steps_then (Err x) first second =
      let long = length-append ys zs in
      record {
        ok = tt;
        least = tt;
        too_many = λ e. laws.after ys zs s t first.ok (second.too_many e);
        later = omega (arith, first.later, second.later);
        most = omega (arith, long, first.most, second.most);
      }

  -- two lists in a row, of which the first was refused
  pub first-refused : (ys zs : List Y) (s t : S) (steps steps_now : ℕ) (error : VisitError)
      (returned : Returned)
      → Answered ys s t steps steps_now (Err error) → IsErrAnd returned (λ e. e ≡ error)
      → Answered (ys ++ zs) s t steps steps_now returned
  first-refused ys zs s t steps steps_now error returned first is_err =
      let long = length-append ys zs in
      passed-on (visits (ys ++ zs) s t) (refuses (ys ++ zs) s) (length (ys ++ zs)) steps steps_now
      error returned
      (λ e. laws.more ys zs s (first.too_many e)) first.later
      (omega (arith, long, first.most)) is_err

  module _ {X : Type 0} (f : List X → List Y) (h : Appends f) (xs : List X) (i : ℕ) (s t : S)
      (steps steps_now : ℕ) (so_far : SoFar visits f xs i s t steps steps_now) where
    -- all that they give, at the end
    pub all-visited : length xs ≤ i → Answered (f xs) s t steps steps_now (Ok tt)
    all-visited past =
        let e = take_all i xs past in
        let long : length (f (take i xs)) ≡ length (f xs) = ap (λ ys. length (f ys)) e in
        let least : steps + length (f xs) ≤ steps_now = omega (arith, so_far.least, long) in
        record {
          ok = subst (λ ys. visits (f ys) s t) e so_far.visited;
          least = least;
          too_many = λ is_err. absurd (cc is_err);
          later = omega (arith, least);
          most = omega (arith, so_far.most, long);
        }

    module _ (d : X) (l : i < length xs) (u : S) (steps_after : ℕ) where
      -- one element more
      pub one-visited : Answered (f (get_or xs i d ∷ [])) t u steps_now steps_after (Ok tt)
          → SoFar visits f xs (i + 1) s u steps steps_after
      one-visited own =
          let more = length-more f h xs i d l in
          record {
            visited = subst (λ ys. visits ys s u) (sym (gives-more f h xs i d l))
                (laws.both (f (take i xs)) (f (get_or xs i d ∷ [])) s t u so_far.visited own.ok);
            least = omega (arith, so_far.least, more, own.least);
            most = omega (arith, so_far.most, more, own.most);
          }

      -- the error of one element is the error of all
      pub error-visited : (error : VisitError) (returned : Returned)
          → Answered (f (get_or xs i d ∷ [])) t u steps_now steps_after (Err error)
          → IsErrAnd returned (λ e. e ≡ error)
          → Answered (f xs) s u steps steps_after returned
      error-visited error returned own is_err =
          let front = length-front f h xs i d l in
          let one = f (get_or xs i d ∷ []) in
          let rest = f (drop (i + 1) xs) in
          passed-on (visits (f xs) s u) (refuses (f xs) s) (length (f xs)) steps steps_after error
          returned
          (λ e. subst (λ ys. refuses ys s) (sym (gives-all f h xs i d l))
          (laws.more (f (take i xs) ++ one) rest s
          (laws.after (f (take i xs)) one s t so_far.visited (own.too_many e))))
          (omega (arith, so_far.least, own.later)) (omega (arith, so_far.most, own.most, front))
          is_err
