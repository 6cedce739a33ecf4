-- What the ten cases do not see, shown by computation: the source's own examples of references that go forward, back and in circles, and
-- of errors that are hidden; sheets that are accepted and that are not; look-ups.
use Rattle.std.specs.Prelude.{◌≡◌, refl, ℕ, List, [], ◌∷◌, map}
use Prim.Native.String.{String}
use Rattle.std.proofs.Math.Option.{none, some}
use Rattle.answers.specs.Ask.{Trail}
use Rattle.rules.specs.Values.{Value, Answer}
use Rattle.rules.specs.Jobs.{check_job, Found, look_up_job}
use Rattle.rules.specs.Cases.{bytes, num, str, arr, obj, refusal_at, refusal, resolves_to, Case, case, outcome}

-- ---- resolutions

unfoldable pub references : List Case
unfolding refusal_at refusal resolves_to num str arr obj
references =
    -- an object may refer to paths within itself, and only the named field is worked out
    case "bar : { foo : 42, baz : ${bar.foo} }"
    (resolves_to ((0, some (num "42")) ∷ []) (obj (("bar", obj (("foo", num "42") ∷ ("baz", num "42") ∷ [])) ∷ [])))
    ∷ case "bar : { foo : 42, baz : ${bar.foo} }\nbar : { foo : 43 }"
    (resolves_to ((0, some (num "43")) ∷ []) (obj (("bar", obj (("foo", num "43") ∷ ("baz", num "43") ∷ [])) ∷ [])))
    -- a substitution sees what is written after it
    ∷ case "b=${a},a=1" (resolves_to ((0, some (num "1")) ∷ []) (obj (("b", num "1") ∷ ("a", num "1") ∷ [])))
    -- a new value for a field is based on the older one
    ∷ case "path : \"a:b:c\"\npath : ${path}\":d\""
    (resolves_to ((0, some (str "a:b:c:d")) ∷ []) (obj (("path", str "a:b:c:d") ∷ [])))
    ∷ case "foo : { a : 1 }\nfoo : ${foo}"
    (resolves_to ((0, some (obj (("a", num "1") ∷ []))) ∷ []) (obj (("foo", obj (("a", num "1") ∷ [])) ∷ [])))
    -- before it has a value it is undefined, and an optional one just disappears
    ∷ case "foo : ${foo}" (refusal 9 6)
    ∷ case "foo : ${foo}\nfoo : { a : 1 }" (refusal 9 6)
    ∷ case "foo : ${?foo}" (resolves_to ((0, none) ∷ []) (obj []))
    -- what a non-object hides is never worked out
    ∷ case "foo : ${does-not-exist}\nfoo : 42" (resolves_to [] (obj (("foo", num "42") ∷ [])))
    ∷ case "foo : ${foo}, foo : 42" (resolves_to [] (obj (("foo", num "42") ∷ [])))
    -- objects that refer to each other look forward
    ∷ case "bar : { a : ${foo.d}, b : 1 }\nbar.b = 3\nfoo : { c : ${bar.b}, d : 2 }\nfoo.d = 4"
    (resolves_to ((0, some (num "4")) ∷ (1, some (num "3")) ∷ [])
    (obj (("bar", obj (("a", num "4") ∷ ("b", num "3") ∷ [])) ∷ ("foo", obj (("c", num "3") ∷ ("d", num "4") ∷ [])) ∷ [])))
    -- three are begun, each once
    ∷ case "a=${b},b=${c},c=${d},d=1"
    (resolves_to ((2, some (num "1")) ∷ (1, some (num "1")) ∷ (0, some (num "1")) ∷ [])
    (obj (("a", num "1") ∷ ("b", num "1") ∷ ("c", num "1") ∷ ("d", num "1") ∷ [])))
    -- circles
    ∷ case "a : { b : ${a} }" (refusal 10 10)
    ∷ case "a : ${b}\nb : ${c}\nc : ${a}" (refusal 10 4)
    ∷ case "a : 1\nb : 2\na : ${b}\nb : ${a}" (refusal_at 10 16 3 5)
    -- objects merge only where they are adjacent
    ∷ case "a : { y : 2 }, a : 42, a : { x : 1 }" (resolves_to [] (obj (("a", obj (("x", num "1") ∷ [])) ∷ [])))
    ∷ case "a : 42, a : { y : 2 }, a : { x : 1 }" (resolves_to [] (obj (("a", obj (("y", num "2") ∷ ("x", num "1") ∷ [])) ∷ [])))
    -- concatenations of objects, arrays and strings
    ∷ case "g = { n = 6 }, e = ${g} { m = \"east\" }"
    (resolves_to ((0, some (obj (("n", num "6") ∷ ("m", str "east") ∷ []))) ∷ [])
    (obj (("g", obj (("n", num "6") ∷ [])) ∷ ("e", obj (("n", num "6") ∷ ("m", str "east") ∷ [])) ∷ [])))
    ∷ case "path = [ /bin ]\npath = ${path} [ /usr/bin ]"
    (resolves_to ((0, some (arr (str "/bin" ∷ str "/usr/bin" ∷ []))) ∷ []) (obj (("path", arr (str "/bin" ∷ str "/usr/bin" ∷ [])) ∷ [])))
    -- the environment is asked last
    ∷ record {
      document = "a = ${HOME} and more, HOME = 1, b = ${?USER}";
      environment = "USER=maker\0HOME=/root\0";
      budget = 256;
      gives = resolves_to ((0, some (str "1 and more")) ∷ (1, some (str "maker")) ∷ [])
          (obj (("a", str "1 and more") ∷ ("HOME", num "1") ∷ ("b", str "maker") ∷ []));
    }
    ∷ []

-- ---- sheets: those of entries (the first one first) and a table, in the layout of the rules

pub record Sent : Type 0 where
  pub document : String
  pub entries : Trail Answer
  pub table : Value
  pub number : ℕ

abbrev pub sent : String → Trail Answer → Value → ℕ → Sent
sent d es v n = record { document = d; entries = es; table = v; number = n }

unfoldable pub verdict_on : Sent → ℕ
unfolding bytes resolves_to check_job
verdict_on x =
    let r = resolves_to x.entries x.table in
    (check_job (bytes x.document) [] r.trail r.table r.text).number

abbrev pub chain : String
chain = "a=${b},b=${c},c=1"

unfoldable pub ones : Value
unfolding num obj
ones = obj (("a", num "1") ∷ ("b", num "1") ∷ ("c", num "1") ∷ [])

abbrev pub pair : String
pair = "a=${c},b=${d},c=1,d=2"

unfoldable pub pairs : Value
unfolding num obj
pairs = obj (("a", num "1") ∷ ("b", num "2") ∷ ("c", num "1") ∷ ("d", num "2") ∷ [])

unfoldable pub sheets : List Sent
unfolding num obj ones pairs
sheets =
    -- as resolved: a's value needs b's
    sent chain ((1, some (num "1")) ∷ (0, some (num "1")) ∷ []) ones 0
    -- an entry that only a later one bears out
    ∷ sent chain ((0, some (num "1")) ∷ (1, some (num "1")) ∷ []) ones 17
    -- a wrong answer, also after a right one, a wrong table, an entry twice, an entry missing, a number that is none
    ∷ sent chain ((1, some (num "2")) ∷ (0, some (num "2")) ∷ []) ones 17
    ∷ sent chain ((1, some (num "1")) ∷ (0, some (num "2")) ∷ []) ones 17
    ∷ sent "a=${?b},b=${?c},c=1" ((1, some (num "1")) ∷ (0, none) ∷ []) (obj (("b", num "1") ∷ ("c", num "1") ∷ [])) 17
    ∷ sent chain ((1, some (num "1")) ∷ (0, some (num "1")) ∷ []) (obj []) 17
    ∷ sent chain ((1, some (num "1")) ∷ (1, some (num "1")) ∷ (0, some (num "1")) ∷ []) ones 17
    ∷ sent chain ((1, some (num "1")) ∷ []) ones 17
    ∷ sent chain ((1, some (num "1")) ∷ (0, some (num "1")) ∷ (2, none) ∷ []) ones 17
    -- values that do not need each other, in either order
    ∷ sent pair ((0, some (num "1")) ∷ (1, some (num "2")) ∷ []) pairs 0
    ∷ sent pair ((1, some (num "2")) ∷ (0, some (num "1")) ∷ []) pairs 0
    -- a needless entry that is right, of a hidden value too
    ∷ sent "a=${?x},a=1" ((0, none) ∷ []) (obj (("a", num "1") ∷ [])) 0
    ∷ []

-- ---- look-ups in one table

pub record Asked : Type 0 where
  pub path : String
  pub found : Found

abbrev pub asked : String → ℕ → ℕ → ℕ → ℕ → Asked
asked path n p start size = record { path = path; found = record { number = n; place = p; start = start; size = size } }

unfoldable pub looked : Asked → Found
unfolding bytes resolves_to num arr obj look_up_job
looked x =
    let r = resolves_to [] (obj (("a", obj (("b", num "1") ∷ ("b", num "2") ∷ [])) ∷ ("c.d", arr (num "3" ∷ [])) ∷ [])) in
    look_up_job r.table r.text (bytes x.path)

-- the root object's records begin with 3 bytes, each key's are 5
unfoldable pub look_ups : List Asked
look_ups =
    asked "a" 0 0 8 23
    ∷ asked " a.b " 0 0 16 5
    ∷ asked "\"c.d\"" 0 0 36 8
    ∷ asked "c.d" 16 0 0 0
    ∷ asked "\"c.d\".0" 16 0 0 0
    ∷ asked "a.x" 16 0 0 0
    ∷ asked "a..b" 7 0 0 0
    ∷ asked "" 7 0 0 0
    ∷ asked "a b$" 3 3 0 0
    ∷ asked "a\n" 3 1 0 0
    ∷ asked "\"a" 4 2 0 0
    ∷ asked "-b" 5 0 0 0
    ∷ []

pub examples-hold : (map outcome references ≡ map (λ c. c.gives) references)
    × (map verdict_on sheets ≡ map (λ x. x.number) sheets)
    × (map looked look_ups ≡ map (λ x. x.found) look_ups)
unfolding outcome references verdict_on sheets looked look_ups
examples-hold = (refl, refl, refl)
