mod TypeMember
mod Queries
mod Texts
