-- Values that are read from tokens.
use Rattle.std.proofs.Common.{◌≡◌, inl, inr, ℕ, List, ◌∷◌, length, Bool}
use Rattle.std.proofs.Common.{Option, None, Some, option_map, codes}
use Rattle.std.proofs.Common.{IfSome, ◌-◌, refl, sym, ap, ◌∙◌, subst, arith}
use Rattle.json.specs.Token.{Token}
use Rattle.json.specs.Json.{members, parse_map, read_key, value}
use Rattle.json.proofs.Grammar.{read_key-shorter, value_is, value-begin_object}
use Rattle.serde_json.specs.Data.{Num, boolean, member, no_members, number, object}
use Rattle.serde_json.specs.Data.{string}
use Rattle.serde_json.specs.Find.{as_i64, as_integer}
use Rattle.serde_json.specs.Read.{converted, number_of, of_json}
use Rattle.agg_values.specs.declared.address.Address.{Address}
use Rattle.agg_values.specs.AddressGrammar.{IsAddressText}
use Rattle.agg_values.specs.TypedKey.{CompositeIntermediateKey, typed_number}
use Rattle.agg_values.specs.declared.typed_key.CompositeIntermediateKey.TheVariants as key
use Rattle.agg_segment.specs.storage.Document.{key_of}
use Rattle.agg_segment.specs.declared.storage.document.FieldValue.{FieldValue}
use Rattle.agg_pages.specs.declared.document_json.token_reader.LineToken.TheVariants as line
use Rattle.agg_pages.specs.declared.document_json.tokens.number.WholeNumber.{WholeNumber}
use Rattle.agg_pages.specs.document_json.LineTokens.{StandsFor}
use Rattle.agg_pages.specs.document_json.Tokens.{IsOnlyMember, TakesValue, num_of}
use Rattle.agg_pages.proofs.lemmas.document_json.TokenTurns.{converted-object, member_read}
use Rattle.agg_pages.proofs.lemmas.document_json.TokenTurns.{members_over}

-- ---- values of one token

pub text_value : (s : List ℕ) (rest : List Token)
    → TakesValue (Token.string s ∷ rest) (key.Str s) rest
text_value s rest = record {
  seen = string s;
  has = inl refl;
  read = λ depth some. ap (converted of_json) (value_is depth (Token.string s ∷ rest));
  shorter = omega arith;
}

pub bool_value : (b : Bool) (rest : List Token)
    → TakesValue (Token.boolean b ∷ rest) (key.Bool b) rest
bool_value b rest = record {
  seen = boolean b;
  has = inl refl;
  read = λ depth some. ap (converted of_json) (value_is depth (Token.boolean b ∷ rest));
  shorter = omega arith;
}

number_read : (s : List ℕ) (n : Num) → number_of s ≡ Some n → (depth : ℕ) (rest : List Token)
    → converted of_json (value depth (Token.number s ∷ rest)) ≡ Some (number n, rest)
number_read s n is depth rest =
    ap (converted of_json) (value_is depth (Token.number s ∷ rest)) ∙ rw is refl

pub number_value : (s : List ℕ) (rest : List Token) (n : Num) (k : CompositeIntermediateKey)
    → number_of s ≡ Some n → option_map typed_number (as_integer n) ≡ Some k
    → TakesValue (Token.number s ∷ rest) k rest
number_value s rest n k is typed = record {
  seen = number n;
  has = inl typed;
  read = λ depth some. number_read s n is depth rest;
  shorter = omega arith;
}

-- ---- dates and addresses

pub date_member : (s : List ℕ) (n : Num) (k : CompositeIntermediateKey) → number_of s ≡ Some n
    → option_map key.DateTime (as_i64 n) ≡ Some k → IsOnlyMember (codes "dt") (Token.number s) k
date_member s n k is within = record {
  seen = number n;
  has = inl within;
  read = number_read s n is;
}

pub if_date : (n : WholeNumber) (found : Option FieldValue)
    → option_map key_of found ≡ option_map key.DateTime (as_i64 (num_of n))
    → IfSome found (λ value. (first : Token) → StandsFor (line.Number n) first
    → IsOnlyMember (codes "dt") first (key_of value))
if_date n None within = tt
if_date n (Some value) within = λ first stands.
    subst (λ token. IsOnlyMember (codes "dt") token (key_of value)) (sym stands.1)
    (date_member stands.0 (num_of n) (key_of value) stands.2 (sym within))

pub address_member : (s : List ℕ) (address : Address) → IsAddressText s address.0
    → IsOnlyMember (codes "ip") (Token.string s) (key.IpAddr address)
address_member s address spells = record {
  seen = string s;
  has = inr (s, address.0, refl, spells, refl);
  read = λ depth rest. ap (converted of_json) (value_is depth (Token.string s ∷ rest));
}

-- an object of one member was read
pub object_value : (ts us rest : List Token) (name : List ℕ) (token : Token)
    (k : CompositeIntermediateKey) → read_key ts ≡ Some (Some name, token ∷ us)
    → IsOnlyMember name token k → read_key us ≡ Some (None, rest)
    → TakesValue (Token.begin_object ∷ ts) k rest
object_value ts us rest name token k first one last =
    let less = read_key-shorter ts (Some name) (token ∷ us) first in
    let less_too = read_key-shorter us None rest last in
    record {
      seen = object (member name one.seen no_members);
      has = one.has;
      read = λ depth some.
          let p = value (depth - 1) in
          ap (converted of_json) (value-begin_object depth ts some)
          ∙ converted-object (members p (length ts) ts)
          ∙ ap (parse_map object)
          (member_read p no_members (length ts) name ts (token ∷ us) us one.seen
          (omega (arith, less)) first (one.read (depth - 1) us)
          ∙ members_over p (member name one.seen no_members) (length ts - 1) us rest
          (omega (arith, less)) last);
      shorter = omega (arith, less, less_too);
    }
