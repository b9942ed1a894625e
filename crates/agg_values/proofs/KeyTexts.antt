-- Texts of after keys: what is written reads back, a text is of one key at most, and any other text
-- gets its refusal.
use Rattle.std.proofs.Common.{◌≡◌, ◌≢◌, ℕ, ℤ, pos, negsuc, zero, suc, ◌+◌, ◌*◌, ◌<◌, ◌^◌, Bool}
use Rattle.std.proofs.Common.{true, false, cond, eqb, List, [], ◌∷◌, ◌++◌, length, get_or, decimal}
use Rattle.std.proofs.Common.{Option, Some, None, Result, Ok, Err, MatchResult, IfErr, refl}
use Rattle.std.proofs.Common.{true≢false, eq-eqb, ne_eqb, neg_ℤ, sym, ap, ◌∙◌, subst, arith}
use Rattle.std.proofs.Common.{FitsSigned}
use Rattle.std.specs.Int.{w64}
use Rattle.std.specs.Fmt.{signed_decimal}
use Rattle.std.specs.List.{Contains}
use Rattle.std.specs.Prelude.{codes}
use Rattle.std.specs.Result.{IsErrAnd}
use Rattle.std.specs.Option.{ok_or}
use Rattle.std.specs.Str.Parse.{IsNumeral}
use Rattle.std.proofs.lemmas.List.{get_or_default}
use Rattle.std.proofs.lemmas.Fmt.{decimal_is_IsNumeral}
use Rattle.std.proofs.lemmas.Str.Parse.{without_leading_plus_none, digit_at}
use Rattle.agg_values.specs.AddressGrammar.{IsAddressText}
use Rattle.agg_values.specs.KeyText.{colon, kind_text, IsSignedText, IsUnsignedText, IsValueText}
use Rattle.agg_values.specs.KeyText.{IsKeyText, IsRefusedAs}
use Rattle.agg_values.specs.declared.error.KeyTextError.{KeyTextError}
use Rattle.agg_values.specs.declared.error.KeyTextError.TheVariants.{NoColon, UnknownType, BadValue}
use Rattle.agg_values.specs.declared.error.KeyTextError.TheVariants.{Unsupported, OutOfMemory}
use Rattle.agg_values.specs.TypedKey.{CompositeIntermediateKey}
use Rattle.agg_values.specs.TypedKey.key.{Bool as Truth, Str, I64, U64, DateTime, IpAddr, Null}
use Rattle.agg_values.proofs.AddressTexts.{IsAddressText-unique}

-- a number that tells texts apart
abbrev weight : List ℕ → ℕ
weight [] = 0
weight (c ∷ cs) = c + 256 * weight cs

-- a text with no colon
free_of_colon : List ℕ → Bool
free_of_colon [] = true
free_of_colon (c ∷ cs) = cond (eqb c colon) false (free_of_colon cs)

both_free : (b rest : Bool) → cond b false rest ≡ true → (b ≡ false) × (rest ≡ true)
both_free true rest e = absurd (true≢false (sym e))
both_free false rest e = (refl, e)

not_contained : (cs : List ℕ) → free_of_colon cs ≡ true → ¬ (Contains cs colon)
unfolding free_of_colon
not_contained [] e (k, below, same) = omega (arith, below)
not_contained (c ∷ cs) e (zero, below, same) = true≢false (sym (eq-eqb c colon same)
    ∙ (both_free _ _ e).0)
not_contained (c ∷ cs) e (suc k, below, same) = not_contained cs (both_free _ _ e).1
    (k, omega arith, same)

no_colon : (key : CompositeIntermediateKey) → ¬ (Contains (kind_text key) colon)
unfolding free_of_colon
no_colon (Truth b) = not_contained (codes "bool") refl
no_colon (Str text) = not_contained (codes "str") refl
no_colon (I64 n) = not_contained (codes "i64") refl
no_colon (U64 n) = not_contained (codes "u64") refl
no_colon (DateTime ns) = not_contained (codes "dt") refl
no_colon (IpAddr address) = not_contained (codes "ip") refl
no_colon Null = not_contained (codes "null") refl

-- a text has one first colon
cut_unique : (xs ys us vs : List ℕ) → (¬ (Contains xs colon)) → (¬ (Contains us colon))
    → xs ++ colon ∷ ys ≡ us ++ colon ∷ vs → (xs ≡ us) × (ys ≡ vs)
cut_unique [] ys [] vs no_x no_u e = (refl, cc)
cut_unique [] ys (u ∷ us) vs no_x no_u e = absurd (no_u (
  0,
  omega arith,
  (let h : u ≡ 58 = cc in
      h),
))
cut_unique (x ∷ xs) ys [] vs no_x no_u e = absurd (no_x (
  0,
  omega arith,
  (let h : x ≡ 58 = cc in
      h),
))
cut_unique (x ∷ xs) ys (u ∷ us) vs no_x no_u e =
    let first : x ≡ u = cc in
    let others : xs ++ colon ∷ ys ≡ us ++ colon ∷ vs = cc in
    let later = cut_unique xs ys us vs (λ h. no_x (suc h.0, omega (arith, h.1), h.2)) (λ h.
    no_u (suc h.0, omega (arith, h.1), h.2)) others in
    ((λ i. first i ∷ later.0 i), later.1)

-- a value is of one key of its kind
same_truth : (value : List ℕ) (b c : Bool) → IsValueText value (Truth b)
    → IsValueText value (Truth c) → b ≡ c
same_truth value true true h k = refl
same_truth value true false h k = absurd (omega (arith, ap weight (sym h ∙ k)))
same_truth value false true h k = absurd (omega (arith, ap weight (sym h ∙ k)))
same_truth value false false h k = refl

value_unique : (value : List ℕ) (key other : CompositeIntermediateKey)
    → kind_text key ≡ kind_text other → IsValueText value key → IsValueText value other
    → key ≡ other
value_unique value (Truth b) (Truth c) e h k = ap Truth (same_truth value b c h k)
value_unique value (Str text) (Str other) e h k = ap Str (h ∙ sym k)
value_unique value (I64 m) (I64 n) e h k = ap I64 (h.2 ∙ sym k.2)
value_unique value (U64 m) (U64 n) e h k = ap U64 (h.2 ∙ sym k.2)
value_unique value (DateTime m) (DateTime n) e h k = ap DateTime (h.2 ∙ sym k.2)
value_unique value (IpAddr a) (IpAddr b) e h k = ap (λ n. IpAddr (record { 0 = n }))
    (IsAddressText-unique value a.0 b.0 h k)
value_unique value Null Null e h k = refl
value_unique value _ _ e h k = absurd (omega (arith, ap weight e))

-- a text is of one key at most
pub IsKeyText-unique : (text : List ℕ) (key other : CompositeIntermediateKey) → IsKeyText text key
    → IsKeyText text other → key ≡ other
IsKeyText-unique text key other (v, e, h) (w, f, k) =
    let same = cut_unique (kind_text key) v (kind_text other) w (no_colon key) (no_colon other)
    (sym e ∙ f) in
    value_unique v key other same.0 h (subst (λ value. IsValueText value other) (sym same.1) k)

-- a kind and a value that are a key's make its text
pub text_of_parts : (kind value : List ℕ) (key : CompositeIntermediateKey) → kind ≡ kind_text key
    → IsValueText value key → IsKeyText (kind ++ colon ∷ value) key
text_of_parts kind value key named spelled =
    (value, ap (λ k. k ++ colon ∷ value) named, spelled)

-- a text that begins as a key's, whose value is of no key of that kind
refused_value : (value : List ℕ) (key : CompositeIntermediateKey)
    → ((other : CompositeIntermediateKey) → kind_text key ≡ kind_text other
    → ¬ (IsValueText value other))
    → IsRefusedAs (kind_text key ++ colon ∷ value) BadValue
refused_value value key none = (
  key,
  value,
  refl,
  λ other (w, e, spelled).
      let same = cut_unique (kind_text key) value (kind_text other) w (no_colon key)
      (no_colon other) e in
      none other same.0 (subst (λ v. IsValueText v other) (sym same.1) spelled),
)

pub refused_truth : (value : List ℕ) → ((b : Bool) → ¬ (IsValueText value (Truth b)))
    → IsRefusedAs (codes "bool" ++ colon ∷ value) BadValue
refused_truth value none = refused_value value (Truth true) of
  where
    of : (key : CompositeIntermediateKey) → codes "bool" ≡ kind_text key → ¬ (IsValueText value key)
    of (Truth b) e h = none b h
    of _ e h = omega (arith, ap weight e)

pub refused_signed : (value : List ℕ) → ((n : ℤ) → ¬ (IsSignedText value n))
    → IsRefusedAs (codes "i64" ++ colon ∷ value) BadValue
refused_signed value none = refused_value value (I64 (pos 0)) of
  where
    of : (key : CompositeIntermediateKey) → codes "i64" ≡ kind_text key → ¬ (IsValueText value key)
    of (I64 n) e h = none n h
    of _ e h = omega (arith, ap weight e)

pub refused_unsigned : (value : List ℕ) → ((n : ℕ) → ¬ (IsUnsignedText value n))
    → IsRefusedAs (codes "u64" ++ colon ∷ value) BadValue
refused_unsigned value none = refused_value value (U64 0) of
  where
    of : (key : CompositeIntermediateKey) → codes "u64" ≡ kind_text key → ¬ (IsValueText value key)
    of (U64 n) e h = none n h
    of _ e h = omega (arith, ap weight e)

pub refused_date : (value : List ℕ) → ((n : ℤ) → ¬ (IsSignedText value n))
    → IsRefusedAs (codes "dt" ++ colon ∷ value) BadValue
refused_date value none = refused_value value (DateTime (pos 0)) of
  where
    of : (key : CompositeIntermediateKey) → codes "dt" ≡ kind_text key → ¬ (IsValueText value key)
    of (DateTime ns) e h = none ns h
    of _ e h = omega (arith, ap weight e)

pub refused_address : (value : List ℕ) → ((a : ℕ) → ¬ (IsAddressText value a))
    → IsRefusedAs (codes "ip" ++ colon ∷ value) BadValue
refused_address value none = refused_value value (IpAddr (record { 0 = 0 })) of
  where
    of : (key : CompositeIntermediateKey) → codes "ip" ≡ kind_text key → ¬ (IsValueText value key)
    of (IpAddr address) e h = none address.0 h
    of _ e h = omega (arith, ap weight e)

-- a number's digits have no sign
not_sign : (ds : List ℕ) (c : ℕ) → IsNumeral 10 ds → c < 48 → get_or ds 0 0 ≢ c
not_sign ds c numeral low e = let first = digit_at ds 0 numeral.1 numeral.0 in omega arith

pub IsUnsignedText-decimal : (n : ℕ) → n < 2 ^ 64 → IsUnsignedText (decimal n) n
IsUnsignedText-decimal n fits =
    let numeral = decimal_is_IsNumeral n fits in
    let bare = without_leading_plus_none (decimal n) (not_sign (decimal n) 43 numeral.0
    (omega arith)) in
    rw bare (numeral.0, fits, sym numeral.1)

pub IsSignedText-signed_decimal : (n : ℤ) → FitsSigned w64 n → IsSignedText (signed_decimal n) n
IsSignedText-signed_decimal (pos n) fits =
    let numeral = decimal_is_IsNumeral n (omega (arith, fits.sfits)) in
    let bare = without_leading_plus_none (decimal n) (not_sign (decimal n) 43 numeral.0
    (omega arith)) in
    let unsigned = ne_eqb (get_or (decimal n) 0 0) 45 (not_sign (decimal n) 45 numeral.0
    (omega arith)) in
    rw (unsigned, bare) (numeral.0, fits, ap pos (sym numeral.1))
IsSignedText-signed_decimal (negsuc n) fits =
    let numeral = decimal_is_IsNumeral (suc n) (omega (arith, fits.sfits)) in
    (numeral.0, fits, ap (λ m. neg_ℤ (pos m)) (sym numeral.1))

-- a kind and a value that a colon divides
contains_colon : (kind value : List ℕ) → Contains (kind ++ colon ∷ value) colon
contains_colon [] value = (0, omega arith, refl)
contains_colon (c ∷ cs) value = let later = contains_colon cs value in
    (suc later.0, omega (arith, later.1), later.2)

f64_is_none : (key : CompositeIntermediateKey) → codes "f64" ≢ kind_text key
f64_is_none (Truth b) e = omega (arith, ap weight e)
f64_is_none (Str text) e = omega (arith, ap weight e)
f64_is_none (I64 n) e = omega (arith, ap weight e)
f64_is_none (U64 n) e = omega (arith, ap weight e)
f64_is_none (DateTime ns) e = omega (arith, ap weight e)
f64_is_none (IpAddr address) e = omega (arith, ap weight e)
f64_is_none Null e = omega (arith, ap weight e)

no_colon_in_f64 : ¬ (Contains (codes "f64") colon)
unfolding free_of_colon
no_colon_in_f64 = not_contained (codes "f64") refl

-- where a text is a key's, a reading gives that key, or memory was wanted
pub refused_key : (text : List ℕ) (key : CompositeIntermediateKey) (error : KeyTextError)
    → IsKeyText text key → IsRefusedAs text error → error ≡ OutOfMemory
refused_key text key NoColon (v, e, h) none =
    absurd (none (subst (λ bytes. Contains bytes colon) (sym e) (contains_colon (kind_text key) v)))
refused_key text key Unsupported (v, e, h) (w, f) =
    absurd (f64_is_none key (sym (cut_unique (kind_text key) v (codes "f64") w (no_colon key)
    no_colon_in_f64 (sym e ∙ f)).0))
refused_key text key UnknownType (v, e, h) (kind, w, f, bare, other, unknown) =
    absurd (unknown key (sym (cut_unique (kind_text key) v kind w (no_colon key) bare (sym e
    ∙ f)).0))
refused_key text key BadValue known (other, w, f, none) = absurd (none key known)
refused_key text key OutOfMemory known memory = refl

-- where each byte is another, the byte is not contained
pub not_contained_by_place : (c : ℕ) (bs : List ℕ) → ((i : ℕ) → i < length bs → get_or bs i 0 ≢ c)
    → ¬ (Contains bs c)
not_contained_by_place c bs other (k, below, same) = other k below (get_or_default bs k 0 c below
    ∙ same)

-- a refusal that is passed on
pub passed_on : {T E : Type 0} (r : Result T E) (e : E) (P : E → Type 0) → IsErrAnd r (λ y. y ≡ e)
    → P e → IfErr r P
passed_on (Ok x) e P is p = tt
passed_on (Err y) e P is p = subst P (sym is) p

pub refusal_told : {T E : Type 0} (r : Result T E) (e : E) (P : T → Type 0) (Q : E → Type 0)
    → IsErrAnd r (λ y. y ≡ e) → Q e → MatchResult r P Q
refusal_told (Ok x) e P Q is q = absurd is
refusal_told (Err y) e P Q is q = subst Q (sym is) q

pub bad_value : {T : Type 0} (r : Result T KeyTextError) (e : KeyTextError) (kind name value : List
    ℕ) → IsErrAnd r (λ y. y ≡ e) → e ≡ BadValue → kind ≡ name
    → IsRefusedAs (name ++ colon ∷ value) BadValue → IfErr r (IsRefusedAs (kind ++ colon ∷ value))
bad_value r e kind name value is bad named refused =
    passed_on r e (IsRefusedAs (kind ++ colon ∷ value)) is
    (subst (IsRefusedAs (kind ++ colon ∷ value)) (sym bad)
    (subst (λ k. IsRefusedAs (k ++ colon ∷ value) BadValue) (sym named) refused))

-- the error of an `ok_or` at None
pub error_of_none : {T E : Type 0} (o : Option T) (given error : E) → o ≡ None
    → Err error ≡ ok_or o given → error ≡ given
error_of_none None given error none e = cc
error_of_none (Some x) given error none e = cc

pub some_is_not_none : {T : Type 0} (o : Option T) (x : T) → o ≡ None → o ≡ Some x → ⊥
some_is_not_none o x none some = cc
