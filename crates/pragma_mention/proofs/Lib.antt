pub mod MentionsLaw
