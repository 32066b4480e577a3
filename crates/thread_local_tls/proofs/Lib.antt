mod MoveLaws
mod WordLaws
