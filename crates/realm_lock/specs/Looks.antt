-- What is read off a realm without a token.
use Rattle.realm_lock.specs.Words.{EndValue, Fitting, History, IsLegal, LabelValue, Limits, List, RealmStep, history_of}

-- it is so of a history that a realm may come to: that of a legal list of steps, in which each end fits its label.
-- Which one it is, only a token can say, which says what its holder has seen.
pub record IsSeen (fits : LabelValue → EndValue → Type 0) (said : History → Type 0) : Type 0 where
  pub limits : Limits
  pub steps : List RealmStep
  pub legal : IsLegal limits steps
  pub fitting : Fitting fits (history_of steps)
  pub shows : said (history_of steps)
