-- "Maps on both sides of each edge" of document 01, the last row as document 02 amends it: the ten rows, three maps with handhelds, and the case Q with k = 3 given whole. proofs/Rows.antt proves them.
use Rattle.std.specs.Prelude.{Bool, true, false, cond, Result, Ok, Err, List, [], ◌∷◌, ℕ, ◌+◌, ◌-◌, ◌*◌, eqb, length, set, replicate}
use Rattle.site.specs.Map.{A}
use Rattle.refusals.specs.Refusals.{Call, call_of}
use Rattle.outcome.specs.declared.Outcome.{Outcome}
use Rattle.outcome.specs.Leaves.{outcome, log_left, paths_left, cut_left}
use Rattle.path_lists.specs.Bytes.{path_bytes}
use Rattle.buffers.specs.Zeros.{zeros_after}

-- ---- a map given by its links; a handheld is linked to itself

abbrev pub with_links : ℕ → List ℕ → List (ℕ × ℕ) → List ℕ
with_links n table [] = table
with_links n table (l ∷ rest) = with_links n (set (set table (l.0 * n + l.1) 1) (l.1 * n + l.0) 1) rest

abbrev pub table_of : ℕ → List (ℕ × ℕ) → List ℕ
table_of n list = with_links n (replicate (n * n) 0) list

-- ---- what comes of a call

pub record RunResult : Type 0 where
  pub place : ℕ
  pub full : Bool
  pub paths : ℕ
  pub rounds : ℕ
  pub messages : ℕ
  pub path_list : List ℕ
  pub cut_list : List ℕ
  pub A : ℕ

pub record RefusalResult : Type 0 where
  pub number : ℕ
  pub place : ℕ
  pub counts : List ℕ
  pub log : List ℕ
  pub path_list : List ℕ
  pub cut_list : List ℕ

-- a run, or a refusal: by the definitions
abbrev pub result_of : Call → Result RunResult RefusalResult
result_of call =
    let o = outcome call in
    cond (eqb o.refusal 0)
    (Ok
    (record {
      place = o.place;
      full = eqb o.paths call.k;
      paths = o.paths;
      rounds = o.rounds;
      messages = o.messages;
      path_list = paths_left call;
      cut_list = cut_left call;
      A = A call.site;
    }))
    (Err
    (record {
      number = o.refusal;
      place = o.place;
      counts = o.paths ∷ o.rounds ∷ o.messages ∷ [];
      log = log_left call;
      path_list = paths_left call;
      cut_list = cut_left call;
    }))

-- ---- the table's rows

pub record MapRow : Type 0 where
  pub made : Call
  pub result : Result RunResult RefusalResult

-- n, links, S, T, k; full, the paths, rounds, messages, the cut, A. The place is 0, and each buffer is just long enough
abbrev pub accepts : ℕ → List (ℕ × ℕ) → ℕ → ℕ → ℕ → Bool → List (List ℕ) → ℕ → ℕ → List ℕ → ℕ → MapRow
accepts n list S T k full paths rounds messages cut steps =
    let paths_length = n - 2 + 3 * k in
    record {
      made = call_of n (table_of n list) S T k (4 * ((2 * k + 1) * steps)) paths_length k;
      result =
          Ok
          (record {
            place = 0;
            full = full;
            paths = length paths;
            rounds = rounds;
            messages = messages;
            path_list = zeros_after paths_length (path_bytes paths);
            cut_list = zeros_after k cut;
            A = steps;
          });
    }

-- n, cells, S, T, k; number, place. The buffers are 12, 3 and 1 bytes long
abbrev pub refuses : ℕ → List ℕ → ℕ → ℕ → ℕ → ℕ → ℕ → MapRow
refuses n table S T k number place =
    record {
      made = call_of n table S T k 12 3 1;
      result =
          Err
          (record { number = number; place = place; counts = 0 ∷ 0 ∷ 0 ∷ []; log = replicate 12 0; path_list = replicate 3 0; cut_list = replicate 1 0 });
    }

abbrev pub Q : List (ℕ × ℕ)
Q = (0, 1) ∷ (0, 4) ∷ (1, 2) ∷ (1, 6) ∷ (2, 3) ∷ (2, 5) ∷ (3, 4) ∷ (3, 7) ∷ (6, 7) ∷ []

abbrev pub rows : List MapRow
rows =
    accepts 2 ((0, 1) ∷ []) 0 1 1 true ((0 ∷ 1 ∷ []) ∷ []) 1 3 [] 1
    ∷ accepts 2 ((0, 1) ∷ []) 0 1 2 false ((0 ∷ 1 ∷ []) ∷ []) 2 3 (255 ∷ []) 1
    ∷ accepts 2 [] 0 1 1 false [] 1 0 [] 0
    ∷ accepts 3 ((0, 1) ∷ (1, 2) ∷ []) 0 2 2 false ((0 ∷ 1 ∷ 2 ∷ []) ∷ []) 2 9 (1 ∷ []) 3
    ∷ accepts 4 ((0, 1) ∷ (0, 2) ∷ (1, 2) ∷ (1, 3) ∷ (2, 3) ∷ []) 0 3 2 true ((0 ∷ 1 ∷ 3 ∷ []) ∷ (0 ∷ 2 ∷ 3 ∷ []) ∷ []) 2 24 [] 8
    ∷ accepts 5 ((0, 1) ∷ (0, 2) ∷ (1, 3) ∷ (2, 3) ∷ (3, 4) ∷ []) 0 4 2 false ((0 ∷ 1 ∷ 3 ∷ 4 ∷ []) ∷ []) 2 35 (3 ∷ []) 10
    ∷ accepts 8 Q 0 7 1 true ((0 ∷ 1 ∷ 2 ∷ 3 ∷ 7 ∷ []) ∷ []) 1 31 [] 20
    ∷ accepts 8 Q 0 7 2 true ((0 ∷ 1 ∷ 6 ∷ 7 ∷ []) ∷ (0 ∷ 4 ∷ 3 ∷ 7 ∷ []) ∷ []) 2 62 [] 20
    ∷ refuses 2 (table_of 2 ((0, 1) ∷ [])) 1 1 1 5 0
    ∷ refuses 2 (0 ∷ 1 ∷ 0 ∷ 0 ∷ []) 0 1 1 13 1
    ∷ []

-- document 02, 3/13: a chain whose middle radio is a handheld, two linked handhelds as S and T, and Q with its radio 6 a handheld
abbrev pub handhelds : List MapRow
handhelds =
    accepts 3 ((0, 1) ∷ (1, 2) ∷ (1, 1) ∷ []) 0 2 1 false [] 1 2 [] 2
    ∷ accepts 2 ((0, 1) ∷ (0, 0) ∷ (1, 1) ∷ []) 0 1 1 true ((0 ∷ 1 ∷ []) ∷ []) 1 3 [] 1
    ∷ accepts 8 ((6, 6) ∷ Q) 0 7 2 false ((0 ∷ 1 ∷ 2 ∷ 3 ∷ 7 ∷ []) ∷ []) 2 57 (3 ∷ []) 19
    ∷ []

-- ---- the case given whole

pub record Whole : Type 0 where
  pub numbers : Outcome
  pub log : List ℕ
  pub path_list : List ℕ
  pub cut_list : List ℕ

-- its numbers: refusal, place, paths, rounds, messages
abbrev pub short_of_q : Outcome
short_of_q = record { refusal = 0; place = 0; paths = 2; rounds = 3; messages = 62 }

-- its 62 messages, eight to a line: kind, round, sending half, receiving half
abbrev pub log_of_q : List ℕ
log_of_q =
    1 ∷ 1 ∷ 1 ∷ 2 ∷ 1 ∷ 1 ∷ 2 ∷ 3 ∷ 1 ∷ 1 ∷ 3 ∷ 4 ∷ 1 ∷ 1 ∷ 4 ∷ 5 ∷ 1 ∷ 1 ∷ 5 ∷ 2 ∷ 2 ∷ 1 ∷ 2 ∷ 5 ∷ 1 ∷ 1 ∷ 5 ∷ 6 ∷ 1 ∷ 1 ∷ 6 ∷ 7
    ∷ 1 ∷ 1 ∷ 7 ∷ 4 ∷ 2 ∷ 1 ∷ 4 ∷ 7 ∷ 1 ∷ 1 ∷ 7 ∷ 8 ∷ 1 ∷ 1 ∷ 8 ∷ 9 ∷ 1 ∷ 1 ∷ 9 ∷ 6 ∷ 2 ∷ 1 ∷ 6 ∷ 9 ∷ 2 ∷ 1 ∷ 9 ∷ 8 ∷ 2 ∷ 1 ∷ 8 ∷ 7
    ∷ 1 ∷ 1 ∷ 7 ∷ 14 ∷ 3 ∷ 1 ∷ 14 ∷ 7 ∷ 3 ∷ 1 ∷ 7 ∷ 6 ∷ 3 ∷ 1 ∷ 6 ∷ 5 ∷ 3 ∷ 1 ∷ 5 ∷ 4 ∷ 3 ∷ 1 ∷ 4 ∷ 3 ∷ 3 ∷ 1 ∷ 3 ∷ 2 ∷ 3 ∷ 1 ∷ 2 ∷ 1
    ∷ 1 ∷ 2 ∷ 1 ∷ 8 ∷ 1 ∷ 2 ∷ 8 ∷ 9 ∷ 1 ∷ 2 ∷ 9 ∷ 6 ∷ 1 ∷ 2 ∷ 6 ∷ 5 ∷ 1 ∷ 2 ∷ 5 ∷ 2 ∷ 1 ∷ 2 ∷ 2 ∷ 1 ∷ 2 ∷ 2 ∷ 1 ∷ 2 ∷ 2 ∷ 2 ∷ 2 ∷ 5
    ∷ 1 ∷ 2 ∷ 5 ∷ 10 ∷ 1 ∷ 2 ∷ 10 ∷ 11 ∷ 1 ∷ 2 ∷ 11 ∷ 4 ∷ 1 ∷ 2 ∷ 4 ∷ 3 ∷ 1 ∷ 2 ∷ 3 ∷ 12 ∷ 1 ∷ 2 ∷ 12 ∷ 13 ∷ 1 ∷ 2 ∷ 13 ∷ 2 ∷ 2 ∷ 2 ∷ 2 ∷ 13
    ∷ 1 ∷ 2 ∷ 13 ∷ 14 ∷ 3 ∷ 2 ∷ 14 ∷ 13 ∷ 3 ∷ 2 ∷ 13 ∷ 12 ∷ 3 ∷ 2 ∷ 12 ∷ 3 ∷ 3 ∷ 2 ∷ 3 ∷ 4 ∷ 3 ∷ 2 ∷ 4 ∷ 11 ∷ 3 ∷ 2 ∷ 11 ∷ 10 ∷ 3 ∷ 2 ∷ 10 ∷ 5
    ∷ 3 ∷ 2 ∷ 5 ∷ 6 ∷ 3 ∷ 2 ∷ 6 ∷ 9 ∷ 3 ∷ 2 ∷ 9 ∷ 8 ∷ 3 ∷ 2 ∷ 8 ∷ 1 ∷ 4 ∷ 3 ∷ 1 ∷ 2 ∷ 4 ∷ 3 ∷ 2 ∷ 3 ∷ 4 ∷ 3 ∷ 3 ∷ 12 ∷ 4 ∷ 3 ∷ 12 ∷ 13
    ∷ 4 ∷ 3 ∷ 13 ∷ 14 ∷ 4 ∷ 3 ∷ 1 ∷ 8 ∷ 4 ∷ 3 ∷ 8 ∷ 9 ∷ 4 ∷ 3 ∷ 9 ∷ 6 ∷ 4 ∷ 3 ∷ 6 ∷ 7 ∷ 4 ∷ 3 ∷ 7 ∷ 14
    ∷ []

-- every number and every byte that the definitions say a call leaves
abbrev pub whole_of : Call → Whole
whole_of call = record { numbers = outcome call; log = log_left call; path_list = paths_left call; cut_list = cut_left call }
